-- What the verifier's equations and its end read and give, in every row of an opening.
--
--   row_claim S claims r   the claim of row r, with what stands behind it
--   RowsRead S t n rounds  polynomial t stands in the table of the rounds, which has residues up to that polynomial and in it, and a list of n numbers has a claim for each row
--   RowsChecked ..         what the verifier's equations and the next claims are, for the polynomial that stands in a table, whatever that is
--   EndsRead S x y key     the settings are allowed, every row of the key is residues, and lists of x and y numbers have a claim for each row and a final element
use Rattle.std.specs.Prelude.{◌≡◌, Bool, List, ℕ, ◌+◌, ◌*◌, ◌<◌, ◌≤◌, length, get_or, drop}
use Rattle.protocol.specs.declared.Settings.{Settings}
use Rattle.protocol.specs.Basic.{every}
use Rattle.protocol.specs.Settings.{settings_refusal, cells}
use Rattle.protocol.specs.Layout.{key_cells, item_cells, polynomial_at, item_of}
use Rattle.protocol.specs.Element.{Element}
use Rattle.protocol.specs.Inputs.{Below}
use Rattle.protocol.specs.Transcript.{round_holds, next_claim}
use Rattle.protocol.specs.Rows.{key_row}
use Rattle.equations.specs.Items.{row_element}

abbrev pub row_claim : Settings → List ℕ → ℕ → List ℕ
row_claim S claims r = drop (r * S.degree) claims

pub record RowsRead (S : Settings) (t claims : ℕ) (rounds : List ℕ) : Type 0 where
  pub allowed : settings_refusal S ≡ 0
  pub index : t ≤ 3280
  pub inside : polynomial_at S t + 3 * item_cells S ≤ length rounds
  pub claims-long : item_cells S ≤ claims
  pub below : (j : ℕ) → j < polynomial_at S t + 3 * item_cells S → get_or rounds j 0 < S.modulus

module _ (S : Settings) (t : ℕ) (rounds : List ℕ) where
  -- c_j of row r
  abbrev pub sent_element : ℕ → ℕ → Element
  sent_element r j = row_element S (drop (r * S.degree) rounds) (item_of t j)

module _ (S : Settings) (t e : ℕ) (claims rounds : List ℕ) (met : Bool) (claims' : List ℕ) where
  pub record RowsChecked : Type 0 where
    pub holds_is : RowsRead S t (length claims) rounds → met ≡ every S.rows (λ r. round_holds S (row_claim S claims r) (sent_element S t rounds r 0) (sent_element S t rounds r 2))
    pub claims_are : RowsRead S t (length claims) rounds → (r k : ℕ) → r < S.rows → k < S.degree
        → get_or claims' (r * S.degree + k) 0 ≡ get_or (next_claim S e (sent_element S t rounds r 0) (sent_element S t rounds r 1) (sent_element S t rounds r 2)) k 0

pub record EndsRead (S : Settings) (claims final : ℕ) (key : List ℕ) : Type 0 where
  pub allowed : settings_refusal S ≡ 0
  pub claims-long : item_cells S ≤ claims
  pub final_long : S.degree ≤ final
  pub key_long : length key ≡ key_cells S
  pub rows_below_holds : (r : ℕ) → r < S.rows → Below S.modulus (cells S) (key_row S key r)
