-- The promises of the calls on text for C and Rust. In a promise x is a slice or a number at entry, and x' the same at exit; n is the number that names
-- the parts. A refused call writes nothing to a slice, and what it answers beside its number is 0.
--
--   look_number, Looked        a first look at a text's settings; the slice for them is tested last, by 7
--   read_number, ReadStored    the table reader, t holding the seven tables: its own refusals, 7 being asked of the number and of the slice for the settings too
--   write_number, WroteStored  the table writer; 7 is asked of the number as of the tables
--   Verdicts                   an answer with a verdict: r is its number
--   ProvedStored               the program `prove` as a call on text
use Rattle.std.specs.Prelude.{◌≡◌, ◌&&◌, List, [], ◌∷◌, ℕ, length}
use Rattle.protocol.specs.declared.Settings.{Settings}
use Rattle.protocol.specs.Answers.{Checked}
use Rattle.protocol.specs.Basic.{first, unless, granted}
use Rattle.protocol.specs.Settings.{has_length}
use Rattle.text_format.specs.Text.{Tables, fits, lines_of, settings_in, tables_in, look_refusal, text_refusal, text_of, write_refusal, overwritten}
use Rattle.text_format.specs.Programs.{prove_answer, prove_exit}
use Rattle.slices.specs.Slices.{lent}
use Rattle.protocol.specs.Session.{verdict_number}
use Rattle.text_calls.specs.Texts.{parts_of, parts_named, settings_width, settings_numbers}

unfoldable pub look_number : List ℕ → List ℕ → ℕ
look_number text settings = first (look_refusal text ∷ unless 7 (has_length settings_width settings) ∷ [])

pub record Looked (text settings : List ℕ) (r : ℕ) (settings' : List ℕ) : Type 0 where
  pub refusal : r ≡ look_number text settings
  pub settings_exit : settings' ≡ granted (look_number text settings) (settings_numbers (settings_in (lines_of text))) settings

unfoldable pub read_number : ℕ → List ℕ → List ℕ → Tables → ℕ
read_number n text settings t = text_refusal (parts_of n) (fits (settings_in (lines_of text)) (parts_of n) t && (has_length settings_width settings && parts_named n)) text

pub record ReadStored (n : ℕ) (text settings : List ℕ) (t : Tables) (r : ℕ) (settings' : List ℕ) (t' : Tables) : Type 0 where
  pub refusal : r ≡ read_number n text settings t
  pub settings_exit : settings' ≡ granted (read_number n text settings t) (settings_numbers (settings_in (lines_of text))) settings
  pub tables_exit : t' ≡ granted (read_number n text settings t) (tables_in (lines_of text)) t

unfoldable pub write_number : Settings → ℕ → Tables → List ℕ → ℕ
write_number S n t out = lent S (parts_named n) (write_refusal S (parts_of n) t (length out))

pub record WroteStored (S : Settings) (n : ℕ) (t : Tables) (out : List ℕ) (r : ℕ) (out' : List ℕ) (count' : ℕ) : Type 0 where
  pub refusal : r ≡ write_number S n t out
  pub out_exit : out' ≡ overwritten (write_number S n t out) (text_of S (parts_of n) t) out
  pub count_exit : count' ≡ granted (write_number S n t out) (length (text_of S (parts_of n) t)) 0

pub record Verdicts (answer : Checked) (r verdict' : ℕ) : Type 0 where
  pub refusal : r ≡ answer.refusal
  pub verdict_exit : verdict' ≡ verdict_number answer.verdict

pub record ProvedStored (text out : List ℕ) (r : ℕ) (out' : List ℕ) (count' : ℕ) : Type 0 where
  pub refusal : r ≡ (prove_answer text out).refusal
  pub out_exit : out' ≡ prove_exit text out
  pub count_exit : count' ≡ (prove_answer text out).count
