-- What the fold of a key asks of what it is given; the refusals ensure it.
--
--   KeyGiven S key E       the settings are allowed, the key is n elements of residues, and there are L challenges
--   EndGiven S x y key E   so they are, and lists of x and y numbers have an element each: a claim and a final element
use Rattle.std.specs.Prelude.{◌≡◌, ℕ, ◌≤◌, List, length}
use Rattle.protocol.specs.declared.Settings.{Settings}
use Rattle.protocol.specs.Settings.{settings_refusal, cells}
use Rattle.protocol.specs.Inputs.{Below}

pub record KeyGiven (S : Settings) (key E : List ℕ) : Type 0 where
  pub allowed : settings_refusal S ≡ 0
  pub key_below : Below S.modulus (cells S) key
  pub challenges-long : S.depth ≤ length E

pub record EndGiven (S : Settings) (x y : ℕ) (key E : List ℕ) : Type 0 where
  pub of_key : KeyGiven S key E
  pub claim_long : S.degree ≤ x
  pub final_long : S.degree ≤ y
