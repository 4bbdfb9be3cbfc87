-- Quotients modulo q: where n·h is 1 modulo q, z is h·x modulo q exactly when z is below q and n·z is x. For an odd q the powers of 2 and of half are such n and h.
use mathlib.Core.Path.{◌≡◌, refl, sym, ap, ◌∙◌}
use mathlib.Core.Bool.{Bool, true, false, ◌&&◌}
use Prim.Native.Nat.{ℕ, zero, suc, ◌+◌, ◌*◌, ◌/◌, ◌%◌, ◌^◌, ◌<◌}
use native.Mathlib.Nat as Nat
use native.Mathlib.Omega.{arith}
use borrow.Author.Tests.{ltb-true, ltb-false, eqb-true, eqb-false, eq-eqb, ne_eqb}
use lib.Dec.{eqb, ltb}
use Rattle.protocol.proofs.Modulo.{times_mod, mod_times}

module _ (q : ℕ) (p : 0 < q) where
  module _ (n h : ℕ) (inverse : n * h % q ≡ 1 % q) where
    undone : (x : ℕ) → n * h * x % q ≡ x % q
    undone x = sym (mod_times q p (n * h) x) ∙ ap (λ w. w * x % q) inverse ∙ mod_times q p 1 x ∙ ap (λ w. w % q) (Nat.one-mul x)

    pub multiple-test : (x z : ℕ) → x < q → (ltb z q && eqb (n * z % q) x) ≡ eqb z (h * x % q)
    multiple-test x z below = by_size (ltb z q) refl
      where
        quotient : z < q → n * z % q ≡ x → z ≡ h * x % q
        quotient l e = sym (ap (λ w. h * w % q) (sym e) ∙ times_mod q p h (n * z) ∙ ap (λ w. w % q) (sym (Nat.mul_assoc h n z) ∙ ap (λ w. w * z) (Nat.mul_comm h n)) ∙ undone z ∙ Nat.mod-eq_of_lt l)

        multiple : z ≡ h * x % q → n * z % q ≡ x
        multiple e = ap (λ w. n * w % q) e ∙ times_mod q p n (h * x) ∙ ap (λ w. w % q) (sym (Nat.mul_assoc n h x)) ∙ undone x ∙ Nat.mod-eq_of_lt below

        by_test : z < q → (b : Bool) → eqb (n * z % q) x ≡ b → b ≡ eqb z (h * x % q)
        by_test l true t = sym (eq-eqb z _ (quotient l (eqb-true _ _ t)))
        by_test l false t = sym (ne_eqb z _ (λ e. eqb-false _ _ t (multiple e)))

        by_size : (b : Bool) → ltb z q ≡ b → (b && eqb (n * z % q) x) ≡ eqb z (h * x % q)
        by_size true t = by_test (ltb-true z q t) _ refl
        by_size false t = sym (ne_eqb z _ (λ e. absurd (omega (arith, e, Nat.mod-lt (h * x) p, ltb-false z q t))))

  -- 2^t·half^t
  pub half-inverse : q % 2 ≡ 1 → (t : ℕ) → 2 ^ t * ((q + 1) / 2) ^ t % q ≡ 1 % q
  half-inverse odd zero = ap (λ w. w % q) (ap (λ w. 1 * w) (Nat.pow-zero ((q + 1) / 2)))
  half-inverse odd (suc t) =
      ap (λ w. w % q) (
      (λ i. Nat.pow-suc 2 t i * Nat.pow-suc half t i)
      ∙ exchange (2 ^ t) 2 (half ^ t) half
      ∙ ap (λ w. 2 ^ t * half ^ t * w) {y = suc q} (omega (arith, odd))
      ∙ Nat.mul-suc (2 ^ t * half ^ t) q
      ∙ Nat.add_comm (2 ^ t * half ^ t * q) (2 ^ t * half ^ t))
      ∙ Nat.add-mul-mod_self_right (2 ^ t * half ^ t) (2 ^ t * half ^ t) q
      ∙ half-inverse odd t
    where
      half : ℕ
      half = (q + 1) / 2

      exchange : (a b c d : ℕ) → a * b * (c * d) ≡ a * c * (b * d)
      exchange a b c d = Nat.mul_assoc a b (c * d) ∙ ap (λ w. a * w) (sym (Nat.mul_assoc b c d) ∙ ap (λ w. w * d) (Nat.mul_comm b c) ∙ Nat.mul_assoc c b d) ∙ sym (Nat.mul_assoc a c (b * d))
