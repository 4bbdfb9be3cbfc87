-- What the reader of the names line and the settings answers.
--
--   header_answer text o  its answer for the values and bytes that were read
--   place_behind o        the place behind the settings that were read, 0 where there are none
--   as_begun x            the answer of the reader of allowed settings, by its numbers
--   place_of x            the place that it gives, on a refusal too
--   Begins text S next    the text begins with the settings S, which are allowed, and behind them stands the place next
use Rattle.std.specs.Prelude.{◌≡◌, List, ℕ, ◌-◌, length, ℤ, Option, Some, None, Result, Ok, Err}
use Rattle.std.proofs.Math.Option.{Option as Read, none, some}
use Rattle.protocol.specs.declared.Settings.{Settings}
use Rattle.protocol.specs.Answers.{Loaded, as_loaded}
use Rattle.protocol.specs.Settings.{settings_refusal}
use Rattle.text_format.specs.Lines.{settings_of}
use Rattle.text_format.specs.Lines.{read_settings}
use Rattle.text_lines.specs.declared.header.Begun.{Begun}
use Rattle.text_lines.specs.declared.header.Disallowed.{Disallowed}

unfoldable pub header_answer : List ℕ → Read (List ℤ × List ℕ) → Option Begun
header_answer text none = None
header_answer text (some (vs, rest)) = Some (record { settings = settings_of vs; next = length text - length rest })

abbrev pub place_behind : Option Begun → ℕ
place_behind None = 0
place_behind (Some b) = b.next

abbrev pub as_begun : Result Begun Disallowed → Loaded
as_begun (Ok b) = as_loaded (Ok b.settings)
as_begun (Err d) = as_loaded (Err d.refusal)

abbrev pub place_of : Result Begun Disallowed → ℕ
place_of (Ok b) = b.next
place_of (Err d) = d.next

pub record Begins (text : List ℕ) (S : Settings) (next : ℕ) : Type 0 where
  pub header : Some (record { settings = S; next = next }) ≡ header_answer text (read_settings text)
  pub allowed : settings_refusal S ≡ 0
