-- The element s(a,b), of d a power of two and two different exponents: it undoes the difference, nothing else does, its coefficients are −1, 0 and 1,
-- and at an even difference it has at most half as many powers of X.
use Rattle.std.specs.Prelude.{◌≡◌, ◌≢◌}
use Rattle.std.proofs.Common.{arith}
use Prim.Native.Nat.{ℕ, ◌+◌, ◌*◌, ◌-◌, ◌%◌, ◌^◌, ◌<◌, ◌≤◌}
use Rattle.std.proofs.Math.Nat as NatL
use Rattle.algebra.specs.Ring.{two}
use Rattle.algebra.specs.Integers.{ℤ-ring}
use Rattle.algebra.specs.Cancel.{two_unique, cancels_ℤ, cancels_negacyclic}
use Rattle.algebra.specs.Negacyclic.{X^}
use Rattle.algebra.specs.Norm.{Rℤ, Bound, norm1}
use Rattle.algebra.specs.Steps.{Halfway, steps, gap, gap-lt, gap-pos, gap_even, pow_pos}
use Rattle.algebra.specs.Divisor.{s, series_two, series-bound, norm1-steps}
use Rattle.algebra.proofs.Steps.{steps-halfway, steps_even}

-- ---- d a power of two, and two different exponents

module _ (D a b : ℕ) (la : a < 2 * 2 ^ D) (lb : b < 2 * 2 ^ D) (ne : a ≢ b) where
  open Rℤ (2 ^ D) (pow_pos D) use {C, add as ◌⊕◌, mul as ◌⊗◌, neg as ⊖◌}

  infixl 60 ◌⊕◌
  infixl 70 ◌⊗◌
  infix 80 ⊖◌
  halfway : Halfway (2 ^ D) (gap (2 ^ D) a b) (steps (2 ^ D) (gap (2 ^ D) a b))
  halfway = steps-halfway D (gap (2 ^ D) a b) (gap-pos (2 ^ D) a b la lb ne) (gap-lt (2 ^ D) a b (pow_pos D))

  pub s-two : s (2 ^ D) (pow_pos D) a b ⊗ (X^ ℤ-ring (2 ^ D) (pow_pos D) a ⊕ ⊖ X^ ℤ-ring (2 ^ D) (pow_pos D) b) ≡ two (Rℤ (2 ^ D) (pow_pos D))
  unfolding s
  s-two = series_two (2 ^ D) (pow_pos D) a b _ (NatL.le_of_lt la) halfway.lands

  pub s-only : (u : C) → u ⊗ (X^ ℤ-ring (2 ^ D) (pow_pos D) a ⊕ ⊖ X^ ℤ-ring (2 ^ D) (pow_pos D) b) ≡ two (Rℤ (2 ^ D) (pow_pos D)) → u ≡ s (2 ^ D) (pow_pos D) a b
  s-only u e = two_unique (Rℤ (2 ^ D) (pow_pos D)) (cancels_negacyclic ℤ-ring (2 ^ D) (pow_pos D) cancels_ℤ) u _ _ e s-two

  pub bound-s : Bound (2 ^ D) (pow_pos D) (s (2 ^ D) (pow_pos D) a b) 1
  unfolding s
  bound-s = series-bound (2 ^ D) (pow_pos D) (2 * 2 ^ D - a) _ _ halfway

  -- at an even difference it has at most half as many powers
  pub norm1-s_even : (a + b) % 2 ≡ 0 → norm1 (2 ^ D) (pow_pos D) (s (2 ^ D) (pow_pos D) a b) * 2 ≤ 2 ^ D
  norm1-s_even even = omega (
    arith,
    norm1-steps (2 ^ D) (pow_pos D) a b,
    steps_even D (gap (2 ^ D) a b) (gap-pos (2 ^ D) a b la lb ne) (gap-lt (2 ^ D) a b (pow_pos D)) (gap_even (2 ^ D) a b (NatL.le_of_lt la) even),
  )
