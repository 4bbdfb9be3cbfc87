-- PROTOCOL 9.1 and 9.5: the readers of a number and of a line as calls on a text and a place, what they answer by number and value, and
-- the lines that every text begins with. What a number and a line are is said in Text.
--
--   present r                  was anything read
--   given_number text o        what a reader of numbers gives for what it read: number, value and next place (`reading` has them for its enum)
--   read_index_at              a part, an item or a place and the space behind it, as a call on a text and a place
--   no_line                    a line of zeros
--   LineReading, line_reading r the number and values for each case of the line reader's answer
--   given_line text o          the same for what was read
--   line_answer text o         what was read, as the line reader's answer
--   read_line_at               the line reader as a call on a text and a place
--   all_lines bs               all lines up to the end
--   spot, read_value           a line's spot, and the value of a line at that spot
--   read_values                the values of lines at these spots, one after the other
--   settings_of vs             the settings whose values are vs
--   read_settings text         the values of the lines that every text begins with, and the bytes behind them
--   begun_with o               the settings of what was read; five zeros where nothing was
--   begun_answer text          the settings that a text begins with, or a first look's answer where they are not allowed
use Rattle.std.specs.Prelude.{Bool, true, false, List, [], ◌∷◌, ℕ, suc, ◌-◌, length, get_or, drop, ℤ, pos}
use Rattle.std.proofs.Math.Option.{Option, none, some, bind as ◌>>=◌}
use Rattle.protocol.specs.declared.Settings.{Settings}
use Rattle.protocol.specs.Answers.{Loaded}
use Rattle.protocol.specs.Answers.{Number}
use Rattle.protocol.specs.Answers.{Entry}
use Rattle.protocol.specs.Answers.Entry.{Found, Malformed}
use Rattle.protocol.specs.Basic.{granted}
use Rattle.protocol.specs.Settings.{settings_refusal}
use Rattle.text_format.specs.Text.{Spot, Line, Reading, value_limit, narrow_limit, names, keep, plain, read_index, read_line, read_lines, begins_with_names, same_spot, spots, settings_shape, unsigned}
use Rattle.text_format.specs.Text.{no_settings, look_answer, number_answer}

unfoldable pub present {ℓ} : {A : Type ℓ} → Option A → Bool
present none = false
present (some a) = true

-- ---- A number

-- 2 is the refusal of bytes that are no number
unfoldable pub given_number : List ℕ → Option (ℤ × List ℕ) → Reading
given_number text none = record { refusal = 2; value = pos 0; next = 0 }
given_number text (some (value, rest)) = record { refusal = 0; value = value; next = length text - length rest }

unfoldable pub read_index_at : List ℕ → ℕ → Number
read_index_at text at = number_answer text (plain (read_index (drop at text)))

-- ---- A line

unfoldable pub no_line : Line
no_line = record { spot = record { part = 0; item = 0; place = 0 }; value = pos 0 }

pub record LineReading : Type 0 where
  pub refusal : ℕ
  pub line : Line
  pub next : ℕ

unfoldable pub line_reading : Entry → LineReading
line_reading (Found part item place value next) = record {
  refusal = 0;
  line = record { spot = record { part = part; item = item; place = place }; value = value };
  next = next;
}
line_reading Malformed = record { refusal = 2; line = no_line; next = 0 }

unfoldable pub given_line : List ℕ → Option (Line × List ℕ) → LineReading
given_line text none = record { refusal = 2; line = no_line; next = 0 }
given_line text (some (l, rest)) = record { refusal = 0; line = l; next = length text - length rest }

unfoldable pub line_answer : List ℕ → Option (Line × List ℕ) → Entry
line_answer text none = Malformed
line_answer text (some (l, rest)) = Found l.spot.part l.spot.item l.spot.place l.value (length text - length rest)

unfoldable pub read_line_at : List ℕ → ℕ → Entry
read_line_at text at = line_answer text (read_line (drop at text))

-- ---- Lines

unfoldable pub all_lines : List ℕ → Option (List Line)
all_lines bs = read_lines (suc (length bs)) bs

abbrev pub spot : ℕ → ℕ → ℕ → Spot
spot part item place = record { part = part; item = item; place = place }

unfoldable pub read_value : Spot → List ℕ → Option (ℤ × List ℕ)
read_value s bs = do
  (l, rest) ← read_line bs
  keep (same_spot l.spot s) (l.value, rest)

unfoldable pub read_values : List Spot → List ℕ → Option (List ℤ × List ℕ)
read_values [] bs = some ([], bs)
read_values (s ∷ ss) bs = do
  (v, rest) ← read_value s bs
  (vs, end) ← read_values ss rest
  some (v ∷ vs, end)

-- ---- The lines that every text begins with

unfoldable pub settings_of : List ℤ → Settings
settings_of vs = record {
  degree = unsigned narrow_limit (get_or vs 0 (pos 0));
  depth = unsigned narrow_limit (get_or vs 1 (pos 0));
  modulus = unsigned value_limit (get_or vs 2 (pos 0));
  bound = unsigned narrow_limit (get_or vs 3 (pos 0));
  rows = unsigned narrow_limit (get_or vs 4 (pos 0));
}

unfoldable pub read_settings : List ℕ → Option (List ℤ × List ℕ)
read_settings text = elim (begins_with_names text) [ true ↦ read_values (spots settings_shape) (drop (length names) text) | false ↦ none ]

unfoldable pub begun_with : Option (List ℤ × List ℕ) → Settings
begun_with none = no_settings
begun_with (some (vs, rest)) = settings_of vs

-- what stands behind the settings is not looked at where they are allowed
unfoldable pub begun_answer : List ℕ → Loaded
begun_answer text =
    granted
    (settings_refusal (begun_with (read_settings text)))
    (record { refusal = 0; settings = begun_with (read_settings text) })
    (look_answer text)
