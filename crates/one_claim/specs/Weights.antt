-- PROTOCOL 2.7: public weights. Weights that everybody knows can stand as a row of a key, one for each element of the message: element i of the row is the i-th weight, as a constant.
-- Coefficient k of that row's commitment is then the weighted sum of the coefficients k of the message's elements, modulo q. An opening is of one message at all rows, so the sum is
-- that of the message behind the other rows too; the weighted sum of the one w that a full tree gives for all rows is 4^L times this commitment.
--
--   constant w               the number w as an element, at place 0
--   weight_row S ws          the row of the weights ws
--   weighted_sum S ws m k    the sum of ws_i·m_i[k] over the elements m_i of the table m, modulo q
--   Weights                  what is owed of a key that has such a row
use Rattle.std.specs.Prelude.{◌≡◌, List, ℕ, zero, suc, ◌*◌, ◌%◌, ◌<◌, ◌≤◌, length, get_or, ℤ, pos, ◌*ℤ◌}
use Rattle.protocol.specs.declared.Settings.{Settings}
use Rattle.protocol.specs.Basic.{sum, flat}
use Rattle.protocol.specs.Element.{modulo, signed_at, value_row}
use Rattle.protocol.specs.Layout.{key_cells}
use Rattle.protocol.specs.Settings.{size, cells}
use Rattle.protocol.specs.Inputs.{Valid, Below}
use Rattle.protocol.specs.Rows.{key_row}
use Rattle.protocol.specs.Tree.{growth, growth_limit}
use Rattle.protocol.specs.Judge.{slack}
use Rattle.protocol.specs.Calls.{commit_answer, extract_exit}
use Rattle.one_claim.specs.Demand3.{FullTree}

unfoldable pub constant : ℕ → ℕ → ℕ
constant w zero = w
constant w (suc k) = 0

unfoldable pub weight_row : Settings → List ℕ → List ℕ
weight_row S ws = flat S.degree (size S) (λ i. constant (get_or ws i 0))

unfoldable pub weighted_sum : Settings → List ℕ → List ℤ → ℕ → ℕ
weighted_sum S ws m k = modulo S.modulus (sum (size S) (λ i. pos (get_or ws i 0) *ℤ signed_at S.degree m i k))

pub record Weights : Type 0 where
  -- residues, one for each element, make a row of a key
  pub is_row : (S : Settings) (ws : List ℕ) → Valid S → Below S.modulus (size S) ws → Below S.modulus (cells S) (weight_row S ws)
  -- the call `commit`, where it is not refused
  pub commits : (S : Settings) (G ws : List ℕ) (M : List ℤ) (r : ℕ) → (commit_answer S G M).refusal ≡ 0 → r < S.rows → key_row S G r ≡ weight_row S ws
      → (k : ℕ) → k < S.degree → get_or (value_row (commit_answer S G M).commitment r) k 0 ≡ weighted_sum S ws M k
  -- the extractor, at every full tree; w is the lent output, whatever stood in it
  pub extracts : (S : Settings) (G ws C rounds E : List ℕ) (finals w : List ℤ) (r : ℕ) → Valid S → Below S.modulus (key_cells S) G
      → FullTree S G C rounds E finals → growth S ≤ growth_limit → length w ≡ cells S → r < S.rows → key_row S G r ≡ weight_row S ws
      → (k : ℕ) → k < S.degree → weighted_sum S ws (extract_exit S C G rounds E finals w) k ≡ slack S * get_or (value_row C r) k 0 % S.modulus
