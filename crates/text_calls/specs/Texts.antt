-- How the calls on text for C and Rust take and give what is not a number or a slice of its own.
--
--   parts_of n          the parts that a number below 128 names
--   parts_count         128: a bit for each part
--   parts_named n       is it one: a bit that names no part is refusal 7
--   settings_width      5: how many settings there are
--   settings_numbers S  the settings
use Rattle.std.specs.Prelude.{Bool, List, [], ◌∷◌, ℕ, ◌/◌, ◌%◌, eqb, ltb}
use Rattle.protocol.specs.declared.Settings.{Settings}
use Rattle.protocol.specs.declared.Parts.{Parts}

unfoldable pub parts_of : ℕ → Parts
parts_of n = record {
  key = eqb (n % 2) 1;
  message = eqb (n / 2 % 2) 1;
  commitment = eqb (n / 4 % 2) 1;
  rounds = eqb (n / 8 % 2) 1;
  challenges = eqb (n / 16 % 2) 1;
  last = eqb (n / 32 % 2) 1;
  claims = eqb (n / 64 % 2) 1;
}

abbrev pub parts_count : ℕ
parts_count = 128

unfoldable pub parts_named : ℕ → Bool
parts_named n = ltb n parts_count

abbrev pub settings_width : ℕ
settings_width = 5

unfoldable pub settings_numbers : Settings → List ℕ
settings_numbers S = S.degree ∷ S.depth ∷ S.modulus ∷ S.bound ∷ S.rows ∷ []
