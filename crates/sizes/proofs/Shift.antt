-- 1 << k is 2^k, and products that fit.
use mathlib.Core.Path.{◌≡◌, sym, ◌∙◌}
use Prim.Native.Nat.{ℕ, ◌+◌, ◌*◌, ◌-◌, ◌^◌, ◌%◌, ◌<◌, ◌≤◌}
use native.Mathlib.Nat as Nat
use native.Mathlib.Omega.{arith}
use lib.Pow as Pow
use Rattle.protocol.specs.declared.Settings.{Settings}
use Rattle.protocol.specs.Layout.{left}
use Rattle.protocol.proofs.OpeningLaws.{left_power}

pub shifted : (w k : ℕ) → 1 + k ≤ w → 1 * 2 ^ k % 2 ^ w ≡ 2 ^ k
shifted w k h = Pow.shl_exact 1 k w (omega arith) h ∙ Nat.one-mul (2 ^ k)

pub shifted-times : (w k x : ℕ) → 1 + k ≤ w → k ≤ 8 → (1 * 2 ^ k % 2 ^ w) * x ≤ 256 * x
shifted-times w k x h l = Nat.mul-le-mul_right x (Nat.le_trans (Nat.le_of_eq (shifted w k h)) (Pow.pow_mono l))

-- of two numbers of 32 bits
pub product-fits : (a b : ℕ) → a < 2 ^ 32 → b < 2 ^ 32 → a * b < 2 ^ 64
product-fits a b h l = omega (arith, Nat.mul-le-mul {n₁ = a} {m₁ = b} {n₂ = 2 ^ 32 - 1} {m₂ = 2 ^ 32 - 1} (omega arith) (omega arith))

-- what is left after t rounds, as it is shifted
pub left_is : (S : Settings) (t : ℕ) → t ≤ S.depth → S.depth ≤ 8 → 1 * 2 ^ (S.depth - t) % 2 ^ 32 ≡ left S t
left_is S t h l = shifted 32 _ (omega arith) ∙ sym (left_power S t h)
