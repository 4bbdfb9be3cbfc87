-- The product of two words by the products of their halves of 32 bits.
use Rattle.std.proofs.Common.{◌≡◌, ℕ, ◌+◌, ◌*◌, ◌/◌, ◌%◌, ◌^◌, sym, refl, ◌∙◌, add_assoc, mul_assoc, mul_comm, add-mul, add_comm, div-add-mod', mul-add, mul_left_comm, arith}
use native.Mathlib.Nat.{add_left_comm}

spread : (P a₀ a₁ b₀ b₁ : ℕ) → (a₁ * P + a₀) * (b₁ * P + b₀) ≡ a₁ * b₁ * (P * P) + a₁ * b₀ * P + a₀ * b₁ * P + a₀ * b₀
spread P a₀ a₁ b₀ b₁ = simp (mul-add, add-mul, mul_assoc, mul_comm, mul_left_comm, add_assoc, add_comm, add_left_comm) refl

pub whole : (u v : ℕ) → u * v ≡ u / 2 ^ 32 * (v / 2 ^ 32) * 2 ^ 64 + u / 2 ^ 32 * (v % 2 ^ 32) * 2 ^ 32 + u % 2 ^ 32 * (v / 2 ^ 32) * 2 ^ 32 + u % 2 ^ 32 * (v % 2 ^ 32)
whole u v = sym (λ i. div-add-mod' u (2 ^ 32) i * div-add-mod' v (2 ^ 32) i) ∙ spread (2 ^ 32) (u % 2 ^ 32) (u / 2 ^ 32) (v % 2 ^ 32) (v / 2 ^ 32)

-- the upper word, column by column with the carries
pub upper_is : (n h l r b m x : ℕ) → n ≡ h * 2 ^ 64 + l * 2 ^ 32 + r * 2 ^ 32 + b → m ≡ l + b / 2 ^ 32 → x ≡ r + m % 2 ^ 32 → h + m / 2 ^ 32 + x / 2 ^ 32 ≡ n / 2 ^ 64
upper_is n h l r b m x whole em ex = omega arith
