-- The lines behind the settings, and what a reader of lines gives for them.
--
--   part_spots S P        the spots of the lines behind the settings
--   taken_answer text o   the answer of a reader of lines at wanted spots: the place behind them, where all are found
--   Took                  what such a reader promises
--   RoomFor S P m         a table of m values has room for those of tables that have their lengths
--   Roomy n m             a table of m values has room for those of a text of n bytes, where it is not too long
use Rattle.std.specs.Prelude.{◌≡◌, true, ℕ, ◌*◌, ◌-◌, ◌≤◌, length, drop, take, ℤ, Option, Some, None}
use mathlib.Core.List.{List, flat_map}
use Rattle.std.proofs.Math.Option.{Option as Read, none, some}
use Rattle.protocol.specs.declared.Settings.{Settings}
use Rattle.protocol.specs.declared.Parts.{Parts}
use Rattle.text_format.specs.Text.{Spot, text_limit, shapes, spots}
use Rattle.text_format.specs.Lines.{read_values}
use Rattle.text_parts.specs.Parts.{part_of, lengths_are}
use Rattle.text_parts.specs.Flat.{total}

unfoldable pub part_spots : Settings → Parts → List Spot
part_spots S P = flat_map spots (drop 1 (shapes S P))

unfoldable pub taken_answer : List ℕ → Read (List ℤ × List ℕ) → Option ℕ
taken_answer text none = None
taken_answer text (some (vs, rest)) = Some (length text - length rest)

-- the answer; and where all lines were found, their values stand first in the table lent for them. What else stands there is left open.
pub record Took (text : List ℕ) (from : ℕ) (ss : List Spot) (r : Option ℕ) (values : List ℤ) : Type 0 where
  pub answer : r ≡ taken_answer text (read_values ss (drop from text))
  pub stored : (vs : List ℤ) (rest : List ℕ) → read_values ss (drop from text) ≡ some (vs, rest) → take (length ss) values ≡ vs

abbrev pub RoomFor : Settings → Parts → ℕ → Type 0
RoomFor S P m = (n : List ℕ) → lengths_are (part_of S P) n ≡ true → total n ≤ m

-- a line has at least eight bytes
abbrev pub Roomy : ℕ → ℕ → Type 0
Roomy n m = n ≤ text_limit → n ≤ 8 * m
