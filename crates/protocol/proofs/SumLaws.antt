-- Sums of whole numbers: a sum in two parts.
use mathlib.Core.Path.{◌≡◌, sym, ap, ◌∙◌}
use Prim.Native.Nat.{ℕ, zero, suc, ◌+◌}
use native.Mathlib.Nat as Nat
use lib.IntN.{ℤ, ◌+ℤ◌, +ℤ_assoc, +ℤ_idr}
use Rattle.protocol.specs.Basic.{sum}

pub sum-split : (n m : ℕ) (f : ℕ → ℤ) → sum (n + m) f ≡ sum n f +ℤ sum m (λ i. f (n + i))
unfolding sum
sum-split n zero f = ap (λ x. sum x f) (Nat.add-zero n) ∙ sym (+ℤ_idr (sum n f))
sum-split n (suc m) f = ap (λ x. sum x f) (Nat.add-suc n m) ∙ ap (λ x. x +ℤ f (n + m)) (sum-split n m f) ∙ +ℤ_assoc (sum n f) (sum m (λ i. f (n + i))) (f (n + m))
