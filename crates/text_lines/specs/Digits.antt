-- A run of digits as the code reads it. Its number may be of any size; of one that is past the largest magnitude only that is kept.
--
--   past_limit         one past the largest magnitude
--   full               2^60: what a number is held at before it is multiplied by ten
--   kept_run r         what is said of an answer r: its number, or one past the largest magnitude where it is past it
--   run_answer text r  the answer for the run r: what is kept of its number, and the place behind it
use Rattle.std.specs.Prelude.{List, ℕ, ◌-◌, min, length}
use Rattle.text_lines.specs.declared.numbers.Run.{Run}

abbrev pub past_limit : ℕ
past_limit = 2_305_843_009_213_693_952

abbrev pub full : ℕ
full = 1_152_921_504_606_846_976

unfoldable pub kept_run : Run → Run
kept_run r = record { value = min r.value past_limit; next = r.next }

unfoldable pub run_answer : List ℕ → ℕ × List ℕ → Run
run_answer text r = record { value = min r.0 past_limit; next = length text - length r.1 }
