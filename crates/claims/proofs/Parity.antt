-- PROTOCOL 5.6: the weights of a node's three μ add up to at most 4·d². Of the three differences of exponents none is odd or two are, and at an even difference s has at most d/2
-- coefficients that are not 0. So one μ at most has two odd differences and a weight up to 2·d²; the others are within d².
--   node_weight d a b c   the weights of the three μ at exponents a, b, c
use mathlib.Core.Path.{◌≡◌, sym, ap, subst}
use mathlib.Core.Logic.{◌≢◌}
use Prim.Native.Nat.{ℕ, ◌+◌, ◌*◌, ◌%◌, ◌^◌, ◌<◌, ◌≤◌}
use native.Mathlib.Nat as Nat
use native.Mathlib.Decide.{ℕ_discrete}
use native.Mathlib.Omega.{arith}
use Rattle.algebra.specs.Magnitude.{weight}
use Rattle.algebra.specs.Norm as N
use Rattle.algebra.specs.Steps.{pow_pos}
use Rattle.algebra.proofs.Divisor.{norm1-s_even}
use Rattle.protocol.specs.Tree.{s}
use Rattle.claims.proofs.Divisors.{read-s}
use Rattle.claims.proofs.Weights.{Triple}
use Rattle.claims.proofs.Norms.{mu_weight, weight-read, weight-s, weight-mu, weight-mu_by}

abbrev pub node_weight : ℕ → ℕ → ℕ → ℕ → ℕ
node_weight d a b c = mu_weight d a b c + mu_weight d b a c + mu_weight d c a b

weight-s-power : (D a b : ℕ) → a < 2 * 2 ^ D → b < 2 * 2 ^ D → a ≢ b → (a + b) % 2 ≡ 0 → weight (2 ^ D) (s (2 ^ D) a b) * 2 ≤ 2 ^ D
weight-s-power D a b la lb ne even =
    omega (arith, weight-read (2 ^ D) (pow_pos D) (s (2 ^ D) a b), ap (N.norm1 (2 ^ D) (pow_pos D)) (read-s (2 ^ D) (pow_pos D) a b), norm1-s_even D a b la lb ne even)

module _ (D d : ℕ) (power : 2 ^ D ≡ d) (p : 0 < d) where
  -- ‖s‖₁ ≤ d/2 at an even difference
  pub weight-s_even : (a b : ℕ) → a < 2 * d → b < 2 * d → a ≢ b → (a + b) % 2 ≡ 0 → weight d (s d a b) * 2 ≤ d
  weight-s_even = subst (λ d. (a b : ℕ) → a < 2 * d → b < 2 * d → a ≢ b → (a + b) % 2 ≡ 0 → weight d (s d a b) * 2 ≤ d) power (weight-s-power D)

  module _ (a b c : ℕ) (la : a < 2 * d) where
    -- ‖μ‖₁ ≤ d² where its first difference is even, and where its second is
    mu_first : b < 2 * d → a ≢ b → (a + b) % 2 ≡ 0 → mu_weight d a b c ≤ d * d
    mu_first lb ne even =
        Nat.le_trans (weight-mu_by d p a b c) (Nat.le_trans (Nat.le_of_eq (Nat.mul_right_comm _ _ 2)) (Nat.mul-le-mul (weight-s_even a b la lb ne even) (weight-s d p a c)))

    mu_second : c < 2 * d → a ≢ c → (a + c) % 2 ≡ 0 → mu_weight d a b c ≤ d * d
    mu_second lc ne even =
        Nat.le_trans (weight-mu_by d p a b c) (Nat.le_trans (Nat.le_of_eq (Nat.mul_assoc _ _ 2)) (Nat.mul-le-mul (weight-s d p a b) (weight-s_even a c la lc ne even)))

  module _ {a b c : ℕ} (T : Triple d a b c) where
    even_ab : (a + b) % 2 ≡ 0 → node_weight d a b c ≤ 4 * (d * d)
    even_ab e = omega (arith, mu_first a b c T.small_a T.small_b T.a≢b e, mu_first b a c T.small_b T.small_a (λ x. T.a≢b (sym x)) (omega arith), weight-mu d p c a b)

    even_ac : (a + c) % 2 ≡ 0 → node_weight d a b c ≤ 4 * (d * d)
    even_ac e = omega (arith, mu_second a b c T.small_a T.small_c T.a≢c e, mu_first c a b T.small_c T.small_a (λ x. T.a≢c (sym x)) (omega arith), weight-mu d p b a c)

    even_bc : (b + c) % 2 ≡ 0 → node_weight d a b c ≤ 4 * (d * d)
    even_bc e = omega (arith, mu_second b a c T.small_b T.small_c T.b≢c e, mu_second c a b T.small_c T.small_b (λ x. T.b≢c (sym x)) (omega arith), weight-mu d p a b c)

    pub node-weight : node_weight d a b c ≤ 4 * (d * d)
    node-weight = elim (ℕ_discrete ((a + b) % 2) 0) [
      | yes e ↦ even_ab e
      | no odd-ab ↦ elim (ℕ_discrete ((a + c) % 2) 0) [
        | yes e ↦ even_ac e
        | no odd-ac ↦ even_bc (omega arith)
      ]
    ]
