-- Refusal 14: the test in small numbers is the test; and where it passes, a vector has at most 1,024 numbers.
use mathlib.Core.Path.{◌≡◌, refl, sym, ap, ap₂, ◌∙◌, subst}
use mathlib.Core.Bool.{Bool, true, false}
use Prim.Native.Nat.{ℕ, zero, suc, ◌+◌, ◌*◌, ◌/◌, ◌^◌, ◌<◌, ◌≤◌}
use native.Mathlib.Nat as Nat
use native.Mathlib.Decide.{dec_le}
use native.Mathlib.Omega.{arith}
use borrow.Author.Tests.{leb-true, le-leb}
use lib.Dec.{leb}
use lib.Pow as Pow
use Rattle.protocol.specs.declared.Settings.{Settings}
use Rattle.protocol.specs.Basic.{choose}
use Rattle.protocol.specs.Settings.{size, cells}
use Rattle.protocol.specs.Tree.{growth_factor, growth_limit, growth, growth_allowed}
use Rattle.protocol.specs.Inputs.{Valid}
use Rattle.protocol.proofs.Tests.{same_test}
use Rattle.protocol.specs.GrowthTest.{capped_times, capped_power, capped_growth}

-- ---- the test in small numbers

module _ (c f : ℕ) (p : 0 < f) where
  times-exact : (g : ℕ) → g * f ≤ c → capped_times c f g ≡ g * f
  unfolding capped_times choose
  times-exact g l = ap (λ b. choose b (g * f) (suc c)) (le-leb g (c / f) ((Nat.le-div_iff_mul-le p).1 l))

  -- a result within the limit is the product, and its factor was within the limit too
  times-within : (g : ℕ) → capped_times c f g ≤ c → (capped_times c f g ≡ g * f) × (g ≤ c)
  unfolding capped_times choose
  times-within g l = go (leb g (c / f)) refl l
    where
      go : (b : Bool) → leb g (c / f) ≡ b → choose b (g * f) (suc c) ≤ c → (choose b (g * f) (suc c) ≡ g * f) × (g ≤ c)
      go true e l = (refl, Nat.le_trans (leb-true g (c / f) e) (Nat.div-le_self c f))
      go false e l = absurd (omega arith)

  power_next : (b n : ℕ) → f ^ n * b * f ≡ f ^ suc n * b
  power_next b n = omega (arith, ap (λ m. m * b) (Nat.pow-suc f n))

  power-within : (b n : ℕ) → capped_power c f b n ≤ c → capped_power c f b n ≡ f ^ n * b
  unfolding capped_power
  power-within b zero l = simp (Nat.pow-zero, Nat.one-mul)
  power-within b (suc n) l = let t = times-within (capped_power c f b n) l in t.0 ∙ ap (λ g. g * f) (power-within b n t.1) ∙ power_next b n

  pub power-exact : (b n : ℕ) → f ^ n * b ≤ c → capped_power c f b n ≡ f ^ n * b
  unfolding capped_power
  power-exact b zero l = simp (Nat.pow-zero, Nat.one-mul)
  power-exact b (suc n) l =
      let e : capped_power c f b n ≡ f ^ n * b = power-exact b n (omega (arith, power_next b n, Nat.mul-le-mul_left (f ^ n * b) p)) in
      times-exact _ (omega (arith, ap (λ g. g * f) e, power_next b n)) ∙ ap (λ g. g * f) e ∙ power_next b n

  -- it stays within one past the limit
  pub capped_most : (b n : ℕ) → b ≤ c → capped_power c f b n ≤ suc c
  unfolding capped_power capped_times choose
  capped_most b zero l = omega arith
  capped_most b (suc n) l = go (leb (capped_power c f b n) (c / f)) refl
    where
      go : (t : Bool) → leb (capped_power c f b n) (c / f) ≡ t → choose t (capped_power c f b n * f) (suc c) ≤ suc c
      go true e = Nat.le_trans ((Nat.le-div_iff_mul-le p).0 (leb-true _ _ e)) (omega arith)
      go false e = Nat.le_refl (suc c)

  capped-test : (b n : ℕ) → leb (capped_power c f b n) c ≡ leb (f ^ n * b) c
  capped-test b n = same_test
      (λ t. le-leb _ _ (subst (λ m. m ≤ c) (power-within b n (leb-true _ _ t)) (leb-true _ _ t)))
      (λ t. le-leb _ _ (subst (λ m. m ≤ c) (sym (power-exact b n (leb-true _ _ t))) (leb-true _ _ t)))

pub growth-capped : (S : Settings) → 0 < S.degree → leb (capped_growth S) growth_limit ≡ growth_allowed S
unfolding capped_growth growth_allowed growth growth_factor
growth-capped S p = capped-test growth_limit (growth_factor S.degree) (Nat.mul-pos (omega arith) (Nat.one-le-pow 2 S.degree p)) S.bound S.depth

-- ---- how many numbers a vector then has

power-power : (a n : ℕ) → (2 ^ a) ^ n ≡ 2 ^ (a * n)
power-power a zero = simp (Nat.pow-zero, Nat.mul-zero)
power-power a (suc n) = Nat.pow-suc (2 ^ a) n ∙ ap (λ m. m * 2 ^ a) (power-power a n) ∙ sym (Pow.pow-add 2 (a * n) a) ∙ ap (λ m. 2 ^ m) (sym (Nat.mul-suc a n))

power_cancel : (a b : ℕ) → 2 ^ a ≤ 2 ^ b → a ≤ b
power_cancel a b l = elim (dec_le a b) [ yes h ↦ h | no h ↦ absurd (omega (arith, Pow.pow-lt {i = b} {j = a} (omega arith))) ]

pub square : (d : ℕ) → d ^ 2 ≡ d * d
square d = rw (Nat.pow-suc d 1, Nat.pow-suc d 0, Nat.pow-zero d) (omega arith)

-- 8·d² is 2^(3 + 2·D)
factor-power : (D d : ℕ) → d ≡ 2 ^ D → growth_factor d ≡ 2 ^ (3 + (D + D))
unfolding growth_factor
factor-power D d e = omega (arith, Pow.pow-add 2 3 (D + D), Pow.pow-add 2 D D, square d, ap₂ ◌*◌ e e)

few : (L D : ℕ) → L ≤ 8 → D ≤ 7 → (3 + (D + D)) * L ≤ 62 → L + D ≤ 10
few L D l m h = elim (dec_le 3 D) [
  | no n ↦ omega arith
  | yes a ↦ elim (dec_le 5 D) [
    | no n ↦ (let k : 9 ≤ 3 + (D + D) = omega arith in omega (arith, Nat.mul-le-mul_right L k))
    | yes b ↦ elim (dec_le 7 D) [
      | no n ↦ (let k : 13 ≤ 3 + (D + D) = omega arith in omega (arith, Nat.mul-le-mul_right L k))
      | yes c ↦ (let k : 17 ≤ 3 + (D + D) = omega arith in omega (arith, Nat.mul-le-mul_right L k))
    ]
  ]
]

pub growth-cells : (S : Settings) → Valid S → growth S ≤ growth_limit → cells S ≤ 1024
unfolding growth growth_limit cells size
growth-cells S v l =
    Nat.le_trans (Nat.le_of_eq (ap (λ d. 2 ^ S.depth * d) v.degree_is ∙ sym (Pow.pow-add 2 S.depth v.log)))
    (Pow.pow_mono (few S.depth v.log v.depth_most v.log_most (power_cancel _ 62 least)))
  where
    least : 2 ^ ((3 + (v.log + v.log)) * S.depth) ≤ 2 ^ 62
    least = Nat.le_trans
        (Nat.le_of_eq (sym (ap (λ f. f ^ S.depth) (factor-power v.log S.degree v.degree_is) ∙ power-power (3 + (v.log + v.log)) S.depth)))
        (Nat.le_trans (omega (arith, Nat.mul-le-mul_left (growth_factor S.degree ^ S.depth) v.bound_least)) l)
