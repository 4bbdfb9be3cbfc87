-- Differences of residues, in natural numbers.
use mathlib.Core.Path.{◌≡◌, sym, ap, ◌∙◌}
use Prim.Native.Nat.{ℕ, ◌+◌, ◌*◌, ◌-◌, ◌%◌, ◌<◌, ◌≤◌}
use native.Mathlib.Nat as Nat
use native.Mathlib.Decide.{dec_lt}
use native.Mathlib.Omega.{arith}
use lib.IntN.{pos, neg_ℤ, ◌+ℤ◌}
use Rattle.protocol.specs.Element.{modulo}
use Rattle.residues.specs.Residues.{BothBelow}
use Rattle.residues.proofs.Signs.{minus-below, minus-above}

-- a number below 2q, modulo q
pub mod-past : (q n : ℕ) → q ≤ n → n < 2 * q → n % q ≡ n - q
mod-past q n g l = ap (λ x. x % q) {x = n} {y = (n - q) + q} (omega arith) ∙ Nat.add-mod_right (n - q) q ∙ Nat.mod-eq_of_lt (omega arith)

-- a difference of residues, in natural numbers
pub minus_is : {q x y : ℕ} → BothBelow q x y → modulo q (pos x +ℤ neg_ℤ (pos y)) ≡ (x + (q - y)) % q
minus_is {q} {x} {y} h = elim (dec_lt x y) [
  | yes l ↦ sym (minus-below q (omega (arith, h.left)) x y l h.right) ∙ sym (Nat.mod-eq_of_lt (omega (arith, h.right)))
  | no g ↦ sym (minus-above q (omega (arith, h.left)) x y (omega arith) h.left) ∙ sym (mod-past q (x + (q - y)) (omega arith) (omega (arith, h.left)) ∙ omega (arith, h.right))
]
