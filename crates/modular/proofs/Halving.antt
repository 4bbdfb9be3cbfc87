-- Halves of a residue of an odd modulus.
use Rattle.std.proofs.Common.{◌≡◌, ℕ, ◌+◌, ◌*◌, ◌/◌, ◌%◌, ◌^◌, ◌<◌, sym, ap, ◌∙◌, add-one, arith}
use native.Mathlib.Nat as Nat
use Rattle.protocol.proofs.Modulo.{times_mod}
use Rattle.modular.specs.Factors.{Halvable}

-- half·(2k + b), half being h with 2h = q + 1
split : (q h k b : ℕ) → h + h ≡ q + 1 → h * (k + k + b) ≡ k + h * b + k * q
split q h k b e = omega (arith, Nat.mul-add h (k + k) b, Nat.mul-add h k k, Nat.add-mul h h k, ap (λ n. n * k) e, Nat.add-mul q 1 k, Nat.mul_comm q k)

module _ (q x : ℕ) (h : Halvable q x) where
  half_of : (r : ℕ) → r ≡ x / 2 + (q + 1) / 2 * (x % 2) → r < q → r ≡ (q + 1) / 2 * x % q
  half_of r is l = sym (
      ap (λ n. (q + 1) / 2 * n % q) {y = x / 2 + x / 2 + x % 2} (omega arith)
      ∙ ap (λ n. n % q) (split q ((q + 1) / 2) (x / 2) (x % 2) (omega arith) ∙ ap (λ n. n + x / 2 * q) (sym is))
      ∙ Nat.add-mul-mod_self_right r (x / 2) q
      ∙ Nat.mod-eq_of_lt l)

  pub half_even : x % 2 ≡ 0 → x / 2 ≡ (q + 1) / 2 * x % q
  half_even e = half_of (x / 2) (omega (arith, ap (λ b. (q + 1) / 2 * b) e)) (omega arith)

  pub half-odd : x % 2 ≡ 1 → x / 2 + q / 2 + 1 ≡ (q + 1) / 2 * x % q
  half-odd e = half_of (x / 2 + q / 2 + 1) (omega (arith, ap (λ b. (q + 1) / 2 * b) e)) (omega arith)

  -- no halving, and one more
  pub halvings_none : x ≡ ((q + 1) / 2) ^ 0 * x % q
  halvings_none = sym (ap (λ n. n * x % q) (Nat.pow-zero ((q + 1) / 2)) ∙ ap (λ n. n % q) (Nat.one-mul x) ∙ Nat.mod-eq_of_lt h.residue)

  pub halvings_more : (i y : ℕ) → y ≡ ((q + 1) / 2) ^ i * x % q → (q + 1) / 2 * y % q ≡ ((q + 1) / 2) ^ (i + 1) * x % q
  halvings_more i y e =
      let b = (q + 1) / 2 in
      ap (λ n. b * n % q) e ∙ times_mod q (omega arith) b (b ^ i * x)
      ∙ ap (λ n. n % q) (sym (Nat.mul_assoc b (b ^ i) x) ∙ ap (λ n. n * x) (sym (Nat.pow-succ' b i) ∙ ap (λ n. b ^ n) (sym (add-one i))))
