-- What the judge's equation asks of what it is given, in all rows; the refusals ensure it.
--
--   AllRows S C key w    the settings are allowed, C has an element of residues for each row by value, the key is one of residues, and w is a vector of the length
--                        of a row, which the growth allows
use Rattle.std.specs.Prelude.{List, ◌≡◌, ℕ, ◌<◌, ◌≤◌, ℤ, length}
use Rattle.protocol.specs.declared.Settings.{Settings}
use Rattle.protocol.specs.Element.{value_row}
use Rattle.protocol.specs.Inputs.{Below}
use Rattle.protocol.specs.Layout.{rows_width, key_cells}
use Rattle.protocol.specs.Settings.{settings_refusal, cells}
use Rattle.judge.specs.Scaling.{Reduced}

pub record AllRows (S : Settings) (C key : List ℕ) (w : List ℤ) : Type 0 where
  pub allowed : settings_refusal S ≡ 0
  pub commitment-long : length C ≡ rows_width
  pub commitment_given : (r : ℕ) → r < S.rows → Reduced S.modulus S.degree (value_row C r)
  pub key_given : Below S.modulus (key_cells S) key
  pub w_long : length w ≡ cells S
  pub few : cells S ≤ 1024
