-- Rows of public weights, proved (one_claim/specs/Weights): a product by a constant is a multiple, so the combination of such a row is the weighted sum.
-- (The file Weights is about others, those of a node's children.)
use mathlib.Core.Path.{◌≡◌, refl, sym, ap, ◌∙◌}
use mathlib.Core.List.{List}
use Prim.Native.Nat.{ℕ, zero, suc, ◌*◌, ◌%◌, ◌<◌, ◌≤◌}
use native.Mathlib.Nat as Nat
use lib.ListN.{length, get_or}
use lib.IntN.{ℤ, pos}
use Rattle.algebra.specs.Ring.{CommRing}
use Rattle.algebra.specs.Integers.{ℤ-ring, ofℕ}
use Rattle.algebra.specs.Negacyclic.{negacyclic}
use Rattle.protocol.specs.declared.Settings.{Settings}
use Rattle.protocol.specs.Element.{Element, modulo, product, one, times, signed_at, residue, residue_at, value_row}
use Rattle.protocol.specs.Layout.{key_cells}
use Rattle.protocol.specs.Settings.{size, cells}
use Rattle.protocol.specs.Inputs.{Valid, Below}
use Rattle.protocol.specs.Opening.{inner, commitment}
use Rattle.protocol.specs.Rows.{key_row}
use Rattle.protocol.specs.Tree.{growth, growth_limit}
use Rattle.protocol.specs.Judge.{slack, scaled_commitment, combination}
use Rattle.protocol.specs.Calls.{commit_refusal, commit_answer, extract_exit}
use Rattle.one_claim.specs.Demand3.{FullTree}
use Rattle.one_claim.specs.Weights.{constant, weight_row, weighted_sum, Weights}
use Rattle.protocol.proofs.Tests.{first_zero, granted-zero}
use Rattle.protocol.proofs.Reading.{flat_at}
use Rattle.protocol.proofs.Inputs.{settings-valid, degree_most}
use Rattle.protocol.proofs.Modulo.{reduced_at}
use Rattle.protocol.proofs.Agreement.{Same, sum-ext, product_same}
use Rattle.protocol.proofs.Rows.{at_rows_at}
use Rattle.claims.proofs.Readings.{readℤ, readℤ-inj, read-times, read_one, read-product}
use Rattle.claims.proofs.RowLaws.{flat-below}
use Rattle.claims.proofs.Honest.{degree-positive, modulus-positive}
use Rattle.claims.proofs.Demand3.{demand3}

-- ---- a product by a constant

constant_one : (w k : ℕ) → pos (constant w k) ≡ times (pos w) one k
unfolding constant times one
constant_one w zero = ap pos (sym (Nat.mul-one w))
constant_one w (suc k) = ap pos (sym (Nat.mul-zero w))

product-constant : (d : ℕ) → 0 < d → (w : ℕ) (a : Element) (k : ℕ) → k < d → product d a (times (pos w) one) k ≡ times (pos w) a k
product-constant d p w a = readℤ-inj d p (product d a (times (pos w) one)) (times (pos w) a)
    (read-product ℤ-ring d p a (times (pos w) one)
    ∙ ap (RZ.mul (readℤ d p a)) (read-times ℤ-ring d p (pos w) one ∙ ap (RZ.mul (ofℕ RZ w)) (read_one ℤ-ring d p) ∙ RZ.mul-one _)
    ∙ RZ.mul_comm _ _
    ∙ sym (read-times ℤ-ring d p (pos w) a))
  where
    RZ : CommRing
    RZ = negacyclic ℤ-ring d p

-- ---- a row of weights

module _ (S : Settings) (p : 0 < S.degree) (ws : List ℕ) where
  open S use {degree as d, modulus as q}

  weight_same : (i : ℕ) → i < size S → Same d (residue_at d (weight_row S ws) i) (times (pos (get_or ws i 0)) one)
  unfolding residue_at weight_row
  weight_same i l k lk = ap pos (flat_at d (size S) _ 0 i k l lk) ∙ constant_one (get_or ws i 0) k

  weighted : (m : List ℤ) (k : ℕ) → k < d → combination S (weight_row S ws) m k ≡ weighted_sum S ws m k
  unfolding combination inner weighted_sum times
  weighted m k lk = ap (modulo q) (sum-ext (size S) (λ i l.
      product_same p (λ _ _. refl) (weight_same i l) k ∙ product-constant d p (get_or ws i 0) (signed_at d m i) k lk))

  row_below : 0 < q → Below q (size S) ws → Below q (cells S) (weight_row S ws)
  unfolding weight_row cells constant
  row_below pq b = flat-below q d (size S) _ p (λ i k li lk. constant-below (get_or ws i 0) k (b.each i li))
    where
      constant-below : (w k : ℕ) → w < q → constant w k < q
      constant-below w zero l = l
      constant-below w (suc k) l = pq

-- ---- the calls

commitment-combination : (S : Settings) (key : List ℕ) (m : List ℤ) (k : ℕ) → k < S.degree → get_or (commitment S key m) k 0 ≡ combination S key m k
unfolding commitment combination
commitment-combination S key m k l = reduced_at S.modulus S.degree _ k l

scaled-plain : (S : Settings) (C : List ℕ) (c k : ℕ) → scaled_commitment S C c k ≡ c * get_or C k 0 % S.modulus
unfolding scaled_commitment times residue modulo
scaled-plain S C c k = refl

weights-commit : (S : Settings) (G ws : List ℕ) (M : List ℤ) (r : ℕ) → commit_refusal S G M ≡ 0 → r < S.rows → key_row S G r ≡ weight_row S ws
    → (k : ℕ) → k < S.degree → get_or (value_row (commit_answer S G M).commitment r) k 0 ≡ weighted_sum S ws M k
unfolding commit_answer
weights-commit S G ws M r z h e k l =
    ap (λ C. get_or (value_row C r) k 0) (granted-zero (commit_refusal S G M) _ _ z)
    ∙ at_rows_at S (λ r. commitment S (key_row S G r) M) r k ok.rows_most_holds (degree_most S ok) h l
    ∙ ap (λ K. get_or (commitment S K M) k 0) e
    ∙ commitment-combination S (weight_row S ws) M k l
    ∙ weighted S (degree-positive S ok) ws M k l
  where
    ok : Valid S
    ok = settings-valid S (unfold commit_refusal in (first_zero _ _ z).0)

weights-extract : (S : Settings) (G ws C rounds E : List ℕ) (finals w : List ℤ) (r : ℕ) → Valid S → Below S.modulus (key_cells S) G
    → FullTree S G C rounds E finals → growth S ≤ growth_limit → length w ≡ cells S → r < S.rows → key_row S G r ≡ weight_row S ws
    → (k : ℕ) → k < S.degree → weighted_sum S ws (extract_exit S C G rounds E finals w) k ≡ slack S * get_or (value_row C r) k 0 % S.modulus
weights-extract S G ws C rounds E finals w r ok key tree room long h e k l =
    sym (weighted S (degree-positive S ok) ws w' k l)
    ∙ ap (λ K. combination S K w' k) (sym e)
    ∙ sym (((demand3 S G ok key).extraction C rounds E finals w tree room long).opens r h k l)
    ∙ scaled-plain S (value_row C r) (slack S) k
  where
    w' : List ℤ
    w' = extract_exit S C G rounds E finals w

pub weights : Weights
unfolding commit_answer
weights = record {
  is_row = λ S ws ok b. row_below S (degree-positive S ok) ws (modulus-positive S ok) b;
  commits = weights-commit;
  extracts = weights-extract;
}
