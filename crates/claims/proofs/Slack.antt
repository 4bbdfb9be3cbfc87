-- What a yes of the judge says of the commitment (PROTOCOL 6). A slack that the judge takes has an inverse modulo q. So the vector decides which commitment it
-- opens: in every row the slack's inverse times the combination of that row of the key. For a vector of zeros that is the commitment of zeros.
use mathlib.Core.Path.{◌≡◌, refl, sym, ap, ap₂, ◌∙◌}
use mathlib.Core.Bool.{Bool, true, false, ◌&&◌, false≢true}
use mathlib.Core.List.{List, [], ◌∷◌}
use Prim.Native.Nat.{ℕ, zero, suc, ◌+◌, ◌*◌, ◌/◌, ◌%◌, ◌<◌}
use native.Mathlib.Nat as Nat
use native.Mathlib.Omega.{arith}
use borrow.Author.Tests.{eqb-true, ltb-true}
use lib.Dec.{eqb, leb, ltb}
use lib.ListN.{get_or}
use lib.IntN.{ℤ, pos, negsuc, ◌+ℤ◌, ◌*ℤ◌, zero-*ℤ}
use Rattle.algebra.specs.Ring as R
use Rattle.algebra.specs.Ring.{CommRing}
use Rattle.algebra.specs.Integers.{ints, ofℕ, ofℕ-add, ofℕ-mul}
use Rattle.algebra.specs.Residues.{Zmod, rep, rep-res, res-rep, res-mul, ofℕ-res, ofℕ-modulus}
use Rattle.algebra.specs.Solver.{con, neg, ◌⊕◌ as ◌:+◌, ◌⊖◌ as ◌:-◌, ◌⊗◌ as ◌:*◌, ◌≐◌}
use Rattle.algebra.specs.Certificate.{◌·⟨◌⟩◌, ◌⇐◌, done, combine}
use Rattle.protocol.specs.declared.Settings.{Settings}
use Rattle.protocol.specs.Basic.{sum, granted}
use Rattle.protocol.specs.Element.{modulo, rotate, product, times, residue, signed_at, residue_at, value_row}
use Rattle.protocol.specs.Settings.{size, all_below, all_within, residue_element, residue_rows}
use Rattle.protocol.specs.Opening.{inner}
use Rattle.protocol.specs.Rows.{key_row}
use Rattle.protocol.specs.Tree.{growth}
use Rattle.protocol.specs.CommonDivisor.{euclid, greatest_common_divisor}
use Rattle.protocol.specs.Judge.{slack_allowed, scaled_commitment, combination, opens, judged, Opens}
use Rattle.protocol.specs.Calls.{judge_refusal, judge_answer}
use Rattle.protocol.specs.Inputs.{Valid}
use Rattle.protocol.proofs.Tests.{and_split, every_at}
use Rattle.protocol.proofs.Refusals.{none-refused}
use Rattle.protocol.proofs.Inputs.{settings-valid}
use Rattle.protocol.proofs.Modulo.{modulo_times, modulo_residue, times_mod, mod_times}
use Rattle.claims.proofs.Honest.{modulus-positive}

-- ---- an inverse of the slack

module _ (K : CommRing) where
  open K use {C, add as ◌⊕◌, mul as ◌⊗◌, neg as ⊖◌}

  infixl 60 ◌⊕◌
  infixl 70 ◌⊗◌
  infix 80 ⊖◌
  -- the rest of two multiples of c is a multiple of c
  rest_multiple : (c u v : C) (a b : ℕ) → ofℕ K a ≡ c ⊗ u → ofℕ K b ≡ c ⊗ v → ofℕ K (a % b) ≡ c ⊗ (u ⊕ ⊖ (v ⊗ ofℕ K (a / b)))
  rest_multiple c u v a b ea eb =
      combine K (ints K) 7 (λ c u v h a b r. r ≐ c :* (u :- v :* h) ⇐ con (negsuc 0) ·⟨ a ≐ b :* h :+ r ⟩ con (pos 1) ·⟨ a ≐ c :* u ⟩ neg h ·⟨ b ≐ c :* v ⟩ done)
      tt c u v (ofℕ K (a / b)) (ofℕ K a) (ofℕ K b) (ofℕ K (a % b)) divided ea eb
    where
      divided : ofℕ K a ≡ ofℕ K b ⊗ ofℕ K (a / b) ⊕ ofℕ K (a % b)
      divided = ap (ofℕ K) (sym (Nat.div-add-mod a b)) ∙ ofℕ-add K (b * (a / b)) (a % b) ∙ ap (λ x. x ⊕ ofℕ K (a % b)) (ofℕ-mul K b (a / b))

  -- so is what Euclid's algorithm gives
  euclid-multiple : (c u v : C) (n a b : ℕ) → ofℕ K a ≡ c ⊗ u → ofℕ K b ≡ c ⊗ v → (z : C) × (ofℕ K (euclid n a b) ≡ c ⊗ z)
  unfolding euclid
  euclid-multiple c u v zero a b ea eb = (u, ea)
  euclid-multiple c u v (suc n) a zero ea eb = (u, ea)
  euclid-multiple c u v (suc n) a (suc b) ea eb = euclid-multiple c v _ n (suc b) (a % suc b) eb (rest_multiple c u v a (suc b) ea eb)

pub record Inverse (q c : ℕ) : Type 0 where
  pub inverse : ℕ
  pub is_inverse : c * inverse % q ≡ 1

pub coprime_inverse : (q c : ℕ) → 1 < q → greatest_common_divisor c q ≡ 1 → Inverse q c
unfolding greatest_common_divisor
coprime_inverse q c more one = record {
  inverse = rep q p found.0;
  is_inverse =
      sym (rep-res q p (c * rep q p found.0))
      ∙ ap (rep q p) (res-mul q p c _ ∙ ap₂ K.mul (sym (ofℕ-res q p c)) (res-rep q p found.0) ∙ sym found.1 ∙ ap (ofℕ K) one ∙ ofℕ-res q p 1)
      ∙ rep-res q p 1
      ∙ Nat.mod-eq_of_lt more;
}
  where
    p : 0 < q
    p = omega arith

    K : CommRing
    K = Zmod q p

    found : (z : K.C) × (ofℕ K (euclid q c q) ≡ K.mul (ofℕ K c) z)
    found = euclid-multiple K (ofℕ K c) K.1# K.0# q c q (sym (K.mul-one _)) (ofℕ-modulus q p ∙ sym (R.mul-zero K _))

pub slack-inverse : (S : Settings) → Valid S → (c : ℕ) → slack_allowed S c ≡ true → Inverse S.modulus c
unfolding slack_allowed
slack-inverse S ok c a = coprime_inverse S.modulus c (omega (arith, ok.modulus_least)) (eqb-true _ _ (and_split {a = leb 1 c && leb c 65_536} a).1)

-- ---- what the judge has tested where it says yes

record Yes (S : Settings) (G C : List ℕ) (c : ℕ) (w : List ℤ) : Type 0 where
  settings : Valid S
  below : (r : ℕ) → r < S.rows → (k : ℕ) → k < S.degree → get_or (value_row C r) k 0 < S.modulus
  allowed : slack_allowed S c ≡ true
  equation : (r : ℕ) → r < S.rows → Opens S (key_row S G r) (value_row C r) c w

granted_true : (n : ℕ) (b : Bool) → granted n b false ≡ true → (n ≡ 0) × (b ≡ true)
unfolding granted
granted_true zero b e = (refl, e)
granted_true (suc n) b e = absurd (false≢true e)

tested : (S : Settings) (G C : List ℕ) (c : ℕ) (w : List ℤ) → (judge_answer S C c G w).yes ≡ true → Yes S G C c w
unfolding judge_answer judge_refusal judged opens residue_rows residue_element
tested S G C c w said =
    let (z, met) = granted_true (judge_refusal S C c G w) (judged S G C c w) said in
    let (r6, (t7, (t8, (t14, (t15, _))))) = none-refused ((6, _) ∷ (7, _) ∷ (13, _) ∷ (14, _) ∷ []) z in
    let residues = every_at S.rows (λ r. residue_element S (value_row C r)) (and_split {a = all_below S G} t8).1 in
    let equations = every_at S.rows (λ r. opens S (key_row S G r) (value_row C r) c w) (and_split {b = all_within (growth S) w} met).0 in
    record {
      settings = settings-valid S r6;
      below = λ r h k l. ltb-true _ _ (every_at S.degree (λ k. ltb (get_or (value_row C r) k 0) S.modulus) (residues r h) k l);
      allowed = t15;
      equation = λ r h k l. eqb-true _ _ (every_at S.degree (λ k. eqb (scaled_commitment S (value_row C r) c k) (combination S (key_row S G r) w k)) (equations r h) k l);
    }

-- the inverse takes the slack away again
unscaled : (S : Settings) (G C : List ℕ) (c : ℕ) (w : List ℤ) → Yes S G C c w → (i : Inverse S.modulus c)
    → (r : ℕ) → r < S.rows → (k : ℕ) → k < S.degree → get_or (value_row C r) k 0 ≡ i.inverse * combination S (key_row S G r) w k % S.modulus
unfolding scaled_commitment times residue
unscaled S G C c w y i r h k l =
    sym (ap (λ x. i.inverse * x % q) scaled
    ∙ times_mod q p i.inverse (c * a)
    ∙ ap (λ x. x % q) (sym (Nat.mul_assoc i.inverse c a) ∙ ap (λ x. x * a) (Nat.mul_comm i.inverse c))
    ∙ sym (mod_times q p (c * i.inverse) a)
    ∙ ap (λ x. x * a % q) i.is_inverse
    ∙ ap (λ x. x % q) (Nat.one-mul a)
    ∙ Nat.mod-eq_of_lt (y.below r h k l))
  where
    a : ℕ
    a = get_or (value_row C r) k 0

    q : ℕ
    q = S.modulus

    p : 0 < q
    p = modulus-positive S y.settings

    scaled : combination S (key_row S G r) w k ≡ c * a % q
    scaled = sym (y.equation r h k l) ∙ modulo_times q p c (pos a) ∙ ap (λ x. c * x % q) (modulo_residue q p a (y.below r h k l))

-- ---- a combination by zeros

sum_zeros : (n : ℕ) (f : ℕ → ℤ) → ((i : ℕ) → f i ≡ pos 0) → sum n f ≡ pos 0
unfolding sum
sum_zeros zero f e = refl
sum_zeros (suc n) f e = ap₂ ◌+ℤ◌ (sum_zeros n f e) (e n)

combination-zeros : (S : Settings) (G : List ℕ) (w : List ℤ) → ((i : ℕ) → get_or w i (pos 0) ≡ pos 0) → (k : ℕ) → combination S G w k ≡ 0
unfolding combination inner product signed_at modulo
combination-zeros S G w zeros k =
    let turned : ℕ → ℕ → ℤ = λ i j. rotate S.degree j (residue_at S.degree G i) k in
    ap (modulo S.modulus) (sum_zeros (size S) _ (λ i. sum_zeros S.degree _ (λ j. ap (λ x. x *ℤ turned i j) (zeros (i * S.degree + j)) ∙ zero-*ℤ (turned i j))))
    ∙ Nat.zero-mod S.modulus

-- ---- what a yes of the judge means

-- the slack has an inverse modulo q, and the commitment of every row is that inverse times the combination of the row by w
pub record Decided (S : Settings) (G C : List ℕ) (c : ℕ) (w : List ℤ) : Type 0 where
  pub inverse : ℕ
  pub is_inverse : c * inverse % S.modulus ≡ 1
  pub commitment_is : (r : ℕ) → r < S.rows → (k : ℕ) → k < S.degree → get_or (value_row C r) k 0 ≡ inverse * combination S (key_row S G r) w k % S.modulus

module _ (S : Settings) (G C : List ℕ) (c : ℕ) (w : List ℤ) (said : (judge_answer S C c G w).yes ≡ true) where
  pub yes_decides : Decided S G C c w
  yes_decides =
      let y = tested S G C c w said in
      let i = slack-inverse S y.settings c y.allowed in
      record { inverse = i.inverse; is_inverse = i.is_inverse; commitment_is = unscaled S G C c w y i }

  -- with one slack and one key, w opens one commitment alone
  pub opens_one : (C' : List ℕ) → (judge_answer S C' c G w).yes ≡ true → (r : ℕ) → r < S.rows → (k : ℕ) → k < S.degree → get_or (value_row C r) k 0 ≡ get_or (value_row C' r) k 0
  opens_one C' said' r h k l =
      let d = yes_decides in
      d.commitment_is r h k l
      ∙ sym (unscaled S G C' c w (tested S G C' c w said') (record { inverse = d.inverse; is_inverse = d.is_inverse }) r h k l)

  -- a vector of zeros opens the commitment of zeros alone, whatever the slack and the key
  pub zeros_open_zero : ((i : ℕ) → get_or w i (pos 0) ≡ pos 0) → (r : ℕ) → r < S.rows → (k : ℕ) → k < S.degree → get_or (value_row C r) k 0 ≡ 0
  zeros_open_zero zeros r h k l =
      let d = yes_decides in
      d.commitment_is r h k l ∙ ap (λ x. d.inverse * x % S.modulus) (combination-zeros S (key_row S G r) w zeros k)
      ∙ ap (λ x. x % S.modulus) (Nat.mul-zero d.inverse) ∙ Nat.zero-mod S.modulus
