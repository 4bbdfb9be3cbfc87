-- What the equations of all rows ask of what they are given; the refusals ensure it.
--
--   RoundGiven S w x y     the settings are allowed, and x and y numbers have an element of each row, w places from each other
--   RowsEvaluable S w ..   the settings are allowed, and three slices have such elements, of residues
--   EndsGiven S x y key E  the settings are allowed, the key is residues of all rows, there are L challenges, a claim is by value for each row, and a list of y numbers
--                          has an element: the final one
use Rattle.std.specs.Prelude.{true, List, ◌≡◌, ℕ, ◌≤◌, length}
use Rattle.protocol.specs.declared.Settings.{Settings}
use Rattle.protocol.specs.Settings.{settings_refusal, residue_rows}
use Rattle.protocol.specs.Layout.{rows_width, key_cells}
use Rattle.protocol.specs.Inputs.{Below}
use Rattle.verifier_refusals.specs.Lent.{lent_rows, RowsLent}

pub record RoundGiven (S : Settings) (w c0 c2 : ℕ) : Type 0 where
  pub allowed : settings_refusal S ≡ 0
  pub first : RowsLent S w c0
  pub third : RowsLent S w c2

pub record RowsEvaluable (S : Settings) (w : ℕ) (c0 c1 c2 : List ℕ) : Type 0 where
  pub allowed : settings_refusal S ≡ 0
  pub first_lent : RowsLent S w (length c0)
  pub second_lent : RowsLent S w (length c1)
  pub third_lent : RowsLent S w (length c2)
  pub first : residue_rows S (lent_rows S w c0) ≡ true
  pub second : residue_rows S (lent_rows S w c1) ≡ true
  pub third : residue_rows S (lent_rows S w c2) ≡ true

pub record EndsGiven (S : Settings) (claims final : ℕ) (key E : List ℕ) : Type 0 where
  pub allowed : settings_refusal S ≡ 0
  pub key_below : Below S.modulus (key_cells S) key
  pub challenges-long : S.depth ≤ length E
  pub claims-long : claims ≡ rows_width
  pub final_long : S.degree ≤ final
