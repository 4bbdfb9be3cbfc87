-- PROTOCOL 5.3: s(a,b) divides 2 by X^a − X^b, is the only element that does, and has no coefficient beyond ±1. Here for every degree that is a power of two;
-- and the same equation in the ring of degree d over every ring K.
use mathlib.Core.Path.{◌≡◌, refl, sym, ap, ap₂, ◌∙◌, subst}
use mathlib.Core.Logic.{◌≢◌}
use mathlib.Core.Bool.{Bool, true, false}
use Prim.Native.Nat.{ℕ, zero, suc, ◌+◌, ◌*◌, ◌-◌, ◌^◌, ◌<◌, ◌≤◌}
use lib.IntN.{pos, negsuc, nat_abs}
use Rattle.algebra.specs.Ring as R
use Rattle.algebra.specs.Ring.{CommRing, two}
use Rattle.algebra.specs.Sum as Σ
use Rattle.algebra.specs.Hom.{on_neg}
use Rattle.algebra.specs.Integers.{ℤ-ring, fromℤ, ofℕ_two}
use Rattle.algebra.specs.Negacyclic.{negacyclic, coef, X^}
use Rattle.algebra.specs.Steps as A
use Rattle.algebra.specs.Divisor as A'
use Rattle.algebra.proofs.Divisor as Laws
use Rattle.protocol.specs.Basic.{least}
use Rattle.protocol.specs.Element.{Element, one, power, times}
use Rattle.protocol.specs.Tree.{gap, steps, s, difference, Divides, Divisor}
use Rattle.claims.proofs.Readings.{read, read_ext, read-plus, read-sum, read-times, read_one, read-power, read-product, readℤ, coef_readℤ, readℤ-inj}

-- ---- the equation in a ring

module _ (K : CommRing) (d : ℕ) (p : 0 < d) where
  abbrev KX : CommRing
  KX = negacyclic K d p

  read-difference : (a b : ℕ) → read K d p (difference d a b) ≡ KX.add (X^ K d p a) (KX.neg (X^ K d p b))
  unfolding difference
  read-difference a b = read-plus K d p _ _ ∙ ap₂ KX.add (read-power K d p a)
      (read-times K d p (negsuc 0) _ ∙ ap₂ KX.mul (on_neg (fromℤ KX) (pos 1) ∙ ap KX.neg (fromℤ KX).on_one) (read-power K d p b) ∙ R.neg-mul KX _ _ ∙ ap KX.neg (R.one-mul KX _))

  read_two : read K d p (times (pos 2) one) ≡ two KX
  read_two = read-times K d p (pos 2) one ∙ ap₂ KX.mul (ofℕ_two KX) (read_one K d p) ∙ KX.mul-one _

  pub read-divides : (a b : ℕ) (x : Element) → Divides d a b x → KX.mul (read K d p x) (KX.add (X^ K d p a) (KX.neg (X^ K d p b))) ≡ two KX
  read-divides a b x h = sym (read-product K d p x _ ∙ ap (KX.mul (read K d p x)) (read-difference a b)) ∙ read_ext K d p h ∙ read_two

-- ---- s is the sum of powers of algebra

least_same : (n : ℕ) (f : ℕ → Bool) → least n f ≡ A.least n f
unfolding least A.least
least_same zero f = refl
least_same (suc n) f = ap (λ m. elim (f 0) as (λ _. ℕ) [ true ↦ 0 | false ↦ suc m ]) (least_same n (λ i. f (suc i)))

steps_same : (d k : ℕ) → steps d k ≡ A.steps d k
unfolding steps A.steps
steps_same d k = least_same d _

module _ (d : ℕ) (p : 0 < d) where
  pub read-s : (a b : ℕ) → readℤ d p (s d a b) ≡ A'.s d p a b
  unfolding s A'.s A'.series gap A.gap
  read-s a b =
      read-sum ℤ-ring d p (steps d (gap d a b)) (λ i. power d (gap d a b * i + (2 * d - a)))
      ∙ Σ.sum-ext (negacyclic ℤ-ring d p) (steps d (gap d a b)) (λ i _. read-power ℤ-ring d p (gap d a b * i + (2 * d - a)))
      ∙ ap (λ m. Σ.sum (negacyclic ℤ-ring d p) m (λ i. X^ ℤ-ring d p (gap d a b * i + (2 * d - a)))) (steps_same d (gap d a b))

-- ---- what is owed of s

module _ (D a b : ℕ) (la : a < 2 * 2 ^ D) (lb : b < 2 * 2 ^ D) (ne : a ≢ b) where
  abbrev q : 0 < 2 ^ D
  q = A.pow_pos D

  divisor_power : Divisor (2 ^ D) a b
  divisor_power = record {
    divides =
        readℤ-inj (2 ^ D) q _ _ (
        read-product ℤ-ring (2 ^ D) q _ _
        ∙ ap₂ (negacyclic ℤ-ring (2 ^ D) q).mul (read-s (2 ^ D) q a b) (read-difference ℤ-ring (2 ^ D) q a b)
        ∙ Laws.s-two D a b la lb ne
        ∙ sym (read_two ℤ-ring (2 ^ D) q)
        );
    ternary = λ k l. subst (λ z. nat_abs z ≤ 1) (ap (λ x. coef ℤ-ring (2 ^ D) q x k) (sym (read-s (2 ^ D) q a b)) ∙ coef_readℤ (2 ^ D) q (s (2 ^ D) a b) k l) (Laws.bound-s D a b la lb ne k);
    only = λ x h. readℤ-inj (2 ^ D) q _ _ (Laws.s-only D a b la lb ne _ (read-divides ℤ-ring (2 ^ D) q a b x h) ∙ sym (read-s (2 ^ D) q a b));
  }

pub divisor : (D d : ℕ) → 2 ^ D ≡ d → (a b : ℕ) → a < 2 * d → b < 2 * d → a ≢ b → Divisor d a b
divisor D d e = subst (λ d. (a b : ℕ) → a < 2 * d → b < 2 * d → a ≢ b → Divisor d a b) e (divisor_power D)
