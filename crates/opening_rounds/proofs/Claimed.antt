-- The elements of a round from its claim: half of the claim is c0 + c2, so it gives c2 from c0, and c1 from the inner product of the halves' sums.
use mathlib.Core.Path.{◌≡◌, sym, ap, ◌∙◌}
use Prim.Native.Nat.{ℕ, ◌+◌, ◌*◌, ◌-◌, ◌%◌, ◌<◌}
use native.Mathlib.Nat as Nat
use native.Mathlib.Decide.{dec_lt}
use native.Mathlib.Omega.{arith}
use Rattle.protocol.proofs.Modulo.{times_mod}
use Rattle.modular.specs.Factors.{Halvable}
use Rattle.round_products.proofs.Less.{mod-past}
use Rattle.opening_rounds.specs.Rounds.{half, half_of}

pub half-below : {q y : ℕ} → Halvable q y → half_of q y < q
half-below {q} {y} h = Nat.mod-lt (half q * y) {m = q} (omega (arith, h.residue))

-- the claim 2·(a + b)
module _ (q : ℕ) (odd : q % 2 ≡ 1) (a b y : ℕ) (la : a < q) (lb : b < q) (is : y ≡ 2 * (a + b) % q) where
  pub claim_halvable : Halvable q y
  claim_halvable = record { odd = odd; residue = omega (arith, is, Nat.mod-lt (2 * (a + b)) {m = q} (omega arith)) }

  claim-half : half_of q y ≡ (a + b) % q
  claim-half =
      ap (λ n. half q * n % q) is
      ∙ times_mod q (omega arith) (half q) (2 * (a + b))
      ∙ ap (λ n. n % q) (
      sym (Nat.mul_assoc (half q) 2 (a + b))
      ∙ ap (λ n. n * (a + b)) {x = half q * 2} {y = 1 + q} (omega (arith, odd))
      ∙ Nat.add-mul 1 q (a + b)
      ∙ (λ i. Nat.one-mul (a + b) i + Nat.mul_comm q (a + b) i))
      ∙ Nat.add-mul-mod_self_right (a + b) (a + b) q

  pub last_is : (half_of q y + (q - a)) % q ≡ b
  last_is =
      ap (λ h. (h + (q - a)) % q) claim-half
      ∙ Nat.mod-add-mod (a + b) q (q - a)
      ∙ ap (λ x. x % q) {x = a + b + (q - a)} {y = b + q} (omega arith)
      ∙ Nat.add-mod_right b q
      ∙ Nat.mod-eq_of_lt lb

  pub middle_is : (c x : ℕ) → c < q → x ≡ ((a + c) % q + b) % q → (x + (q - half_of q y)) % q ≡ c
  middle_is c x lc ex =
      (λ i. (ex i + (q - claim-half i)) % q)
      ∙ Nat.mod-add-mod ((a + c) % q + b) q (q - (a + b) % q)
      ∙ ap (λ z. z % q) (Nat.add_assoc ((a + c) % q) b (q - (a + b) % q))
      ∙ Nat.mod-add-mod (a + c) q (b + (q - (a + b) % q))
      ∙ elim (dec_lt (a + b) q) [
        | yes l ↦
            ap (λ z. z % q) {x = a + c + (b + (q - (a + b) % q))} {y = c + q} (omega (arith, Nat.mod-eq_of_lt l))
            ∙ Nat.add-mod_right c q
        | no g ↦
            ap (λ z. z % q) {x = a + c + (b + (q - (a + b) % q))} {y = c + q + q} (omega (arith, mod-past q (a + b) (omega arith) (omega arith)))
            ∙ Nat.add-mod_right (c + q) q
            ∙ Nat.add-mod_right c q
      ]
      ∙ Nat.mod-eq_of_lt lc
