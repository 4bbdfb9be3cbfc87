-- Sums of one product: those of an inner product of one element, and those of one strand.
use Rattle.std.proofs.Common.{◌≡◌, ℕ, ◌+◌, ◌*◌, ◌^◌, ◌≤◌, List, length, get_or, ℤ, pos, ◌+ℤ◌, ◌∙◌, subst, arith}
use native.Mathlib.Nat as Nat
use lib.IntN.{+ℤ_idl}
use Rattle.protocol.specs.Basic.{sum}
use Rattle.protocol.specs.Element.{Element, plus, product, residue, signed, residue_at, signed_at}
use Rattle.protocol.specs.Opening.{inner}
use Rattle.rows.specs.Rows.{woven}
use Rattle.joins.specs.Sums.{Halves}
use Rattle.joins.proofs.Joining.{halves-none}
use Rattle.product_sums.specs.Sums.{Stands, Addable, Summable, Zero}

-- an inner product of one element
pub stands_one : (q d w : ℕ) (f : List ℤ) (g s t : List ℕ) → Stands q d (inner d 1 (signed_at d f) (residue_at d g)) (1 * w) s t → Stands q d (product d (signed f) (residue g)) w s t
unfolding inner sum signed_at residue_at signed residue
stands_one q d w f g s t at = record { each = λ k l. subst (λ z. Halves q z (w * 2 ^ 32) (get_or s k 0) (get_or t k 0)) (one k) (rw (Nat.one-mul w) at (at.each k l)) }
  where
    front : (j : ℕ) → 0 * d + j ≡ j
    front j = omega (arith, Nat.zero-mul d)

    one : (k : ℕ) → pos 0 +ℤ product d (λ j. get_or f (0 * d + j) (pos 0)) (λ j. pos (get_or g (0 * d + j) 0)) k ≡ product d (λ j. get_or f j (pos 0)) (λ j. pos (get_or g j 0)) k
    one k = +ℤ_idl _ ∙ (λ i. product d (λ j. get_or f (front j i) (pos 0)) (λ j. pos (get_or g (front j i) 0)) k)

pub of_one-strand : (q d : ℕ) (F : ℕ → Element) (count : ℕ) (s t : List ℕ) → Stands q (d * 1) (woven 1 F) count s t → Stands q d (F 0) count s t
unfolding woven
of_one-strand q d F count s t at = record {
  each = λ k l. subst (λ z. Halves q z (count * 2 ^ 32) (get_or s k 0) (get_or t k 0)) (λ i. F (Nat.mod-one k i) (Nat.div-one k i)) (at.each k (omega (arith, Nat.mul-one d)));
}

-- ---- one product

module _ (q d : ℕ) (f : List ℤ) (g : List ℕ) (z : Summable q d 1 f g) where
  pub one_addable : (s t : ℕ) → d ≤ length f → d ≤ s → d ≤ t → Addable q 1 d z.magnitude f s t
  one_addable s t lf ls lt = record {
    modulus = z.elements.modulus;
    modulus_most_holds = omega (arith, z.modulus_most_holds);
    some = omega arith;
    strands = omega arith;
    degree = z.elements.degree;
    degree_most = z.elements.degree_most;
    long = lf;
    small = λ j l. z.small j (omega (arith, Nat.one-mul d));
    lowers = omega (arith, Nat.mul-one d);
    uppers = omega (arith, Nat.mul-one d);
  }

  pub none_one : (s t : List ℕ) → Zero s → Zero t → Stands q (d * 1) (woven 1 (λ _ _. pos 0)) 0 s t
  unfolding woven
  none_one s t zs zt = record { each = λ k l. rw (zs k, zt k) (halves-none q z.elements.modulus) }

  pub one_done : (s t : List ℕ) → Stands q (d * 1) (woven 1 (λ r. plus (λ _. pos 0) (product d (signed f) (residue g)))) (0 + d * z.magnitude) s t
      → Stands q d (product d (signed f) (residue g)) (d * z.magnitude) s t
  unfolding plus
  one_done s t at = record {
    each = λ k l. subst (λ y. Halves q y (d * z.magnitude * 2 ^ 32) (get_or s k 0) (get_or t k 0)) (+ℤ_idl _)
        (rw (Nat.zero-add (d * z.magnitude)) at ((of_one-strand q d (λ r k. pos 0 +ℤ product d (signed f) (residue g) k) _ s t at).each k l));
  }
