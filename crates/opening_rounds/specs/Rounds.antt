-- What the prover writes in the rounds of a whole opening, where the commitment's products give what round 1 needs of them, and each claim gives c2.
-- An item is an element for each row, one behind the other.
--
--   sum_at                  number k of a sum of two elements
--   half_of q y             y/2 modulo q, of a residue y and an odd q
--   middle_at, last_at      number k of c1 and of c2
--   sum_element S t ..      c0 + c1 + c2 of round t + 1 in one row, as one inner product
--   sum_item S t ..         that sum, row by row
--   commitment_item         the commitment, row by row
--   ItemsBegun S ..         the commitment is written in every row, and c0 of round 1 where there is room for it
--   Continuing S t ..       p begins with c0 of round t + 1, and the claim is 2·(c0 + c2), in every row
use Rattle.std.specs.Prelude.{◌≡◌, List, ℕ, ◌+◌, ◌*◌, ◌-◌, ◌%◌, ◌^◌, ◌<◌, ◌≤◌, ℤ, pos, length, get_or}
use Rattle.protocol.specs.declared.Settings.{Settings}
use Rattle.protocol.specs.Element.{times, reduced, signed_at, residue_at}
use Rattle.protocol.specs.Settings as settings
use Rattle.protocol.specs.Layout.{item_cells}
use Rattle.protocol.specs.Opening.{half_left, commitment}
use Rattle.protocol.specs.Rows.{key_row}
use Rattle.protocol.specs.Calls.{round_refusal}
use Rattle.residues.specs.Lists.{filled}
use Rattle.round_products.specs.Sums.{inner_of_sums}
pub use Rattle.round_products.specs.Items.{round_item}
use Rattle.plain_products.specs.Rowwise.{row_places}
pub use Rattle.round_products.specs.Sums.{half, Halvables}

abbrev pub sum_at : ℕ → List ℕ → List ℕ → ℕ → ℕ
sum_at q x y k = (get_or x k 0 + get_or y k 0) % q

abbrev pub half_of : ℕ → ℕ → ℕ
half_of q y = half q * y % q

abbrev pub middle_at : ℕ → ℕ → List ℕ → List ℕ → ℕ → ℕ
middle_at q n claim p k = (get_or p (n + k) 0 + (q - half_of q (get_or claim k 0))) % q

abbrev pub last_at : ℕ → List ℕ → List ℕ → ℕ → ℕ
last_at q claim p k = (half_of q (get_or claim k 0) + (q - get_or p k 0)) % q

unfoldable pub sum_element : Settings → ℕ → List ℕ → List ℤ → List ℕ
sum_element S t key message =
    let d = S.degree in
    reduced S.modulus d (times (pos (settings.half S ^ (t + 1))) (inner_of_sums d (half_left S t) (signed_at d message) (residue_at d key)))

abbrev pub sum_item : Settings → ℕ → List ℕ → List ℤ → ℕ → List ℕ
sum_item S t key message r = sum_element S t (key_row S key r) message

abbrev pub commitment_item : Settings → List ℕ → List ℤ → ℕ → List ℕ
commitment_item S key message r = commitment S (key_row S key r) message

pub record ItemsBegun (S : Settings) (key : List ℕ) (message : List ℤ) (C R C' R' : List ℕ) : Type 0 where
  pub commits : item_cells S ≤ length C → C' ≡ filled (row_places S.degree (commitment_item S key message)) (item_cells S) C
  pub first : item_cells S ≤ length C → item_cells S ≤ length R → R' ≡ filled (row_places S.degree (round_item S 0 key message 0)) (item_cells S) R
  pub none : item_cells S ≤ length C → length R ≡ 0 → R' ≡ R

pub record Continuing (S : Settings) (t : ℕ) (key : List ℕ) (message : List ℤ) (claim p : List ℕ) : Type 0 where
  pub passed : round_refusal S t key message ≡ 0
  pub claim_long : item_cells S ≤ length claim
  pub room : 3 * item_cells S ≤ length p
  pub first : (k : ℕ) → k < item_cells S → get_or p k 0 ≡ row_places S.degree (round_item S t key message 0) k
  pub claimed : (k : ℕ) → k < item_cells S
      → get_or claim k 0 ≡ 2 * (row_places S.degree (round_item S t key message 0) k + row_places S.degree (round_item S t key message 2) k) % S.modulus
