-- How large products are, and every sum on the way to them: by the sum of the magnitudes of one factor's coefficients and the largest magnitude of the other's. Then s(a,b) and μ.
--   weight d a             the sum of the magnitudes of a's d coefficients (of algebra)
--   running d a b k n      the first n of the d terms of place k of a·b
--   mu_weight d a b c      the weight of μ
use mathlib.Core.Path.{◌≡◌, refl, sym, ap, ap₂, ◌∙◌, subst}
use Prim.Native.Nat.{ℕ, zero, suc, ◌+◌, ◌*◌, ◌-◌, ◌<◌, ◌≤◌}
use native.Mathlib.Nat as Nat
use native.Mathlib.Omega.{arith}
use lib.IntN.{ℤ, nat_abs, ◌*ℤ◌}
use Rattle.algebra.specs.Integers.{ℤ-ring}
use Rattle.algebra.specs.Magnitude.{nat_abs-add, nat_abs_mul, weight, weight_ext, weight-add}
use Rattle.algebra.specs.Norm as N
use Rattle.algebra.specs.Divisor as A
use Rattle.protocol.specs.Basic.{sum}
use Rattle.protocol.specs.Element.{Element, one, power, rotate, product, plus, signed}
use Rattle.protocol.specs.Tree.{s, mu}
use Rattle.claims.proofs.Readings.{readℤ, coef_readℤ, read_one, read-power, read-product}
use Rattle.claims.proofs.Bounds.{Bounded, rotate-bounded}
use Rattle.claims.proofs.Divisors.{read-s}
use Rattle.claims.proofs.Weights.{signed-coefficients}

-- ---- sums of products

products-bounded : (n B : ℕ) (c f : ℕ → ℤ) → ((i : ℕ) → i < n → nat_abs (f i) ≤ B) → nat_abs (sum n (λ i. c i *ℤ f i)) ≤ weight n c * B
unfolding sum weight
products-bounded zero B c f h = omega arith
products-bounded (suc n) B c f h = omega (
  arith,
  nat_abs-add (sum n (λ i. c i *ℤ f i)) (c n *ℤ f n),
  nat_abs_mul (c n) (f n),
  products-bounded n B c f (λ i l. h i (omega arith)),
  Nat.mul-le-mul_left (nat_abs (c n)) (h n (omega arith)),
  Nat.add-mul (weight n c) (nat_abs (c n)) B,
)

weight-longer : (n e : ℕ) (f : ℕ → ℤ) → weight n f ≤ weight (e + n) f
unfolding weight
weight-longer n zero f = Nat.le_of_eq (ap (λ m. weight m f) (sym (Nat.zero-add n)))
weight-longer n (suc e) f = omega (arith, weight-longer n e f, ap (λ m. weight m f) (Nat.suc-add e n))

weight-le : (n d : ℕ) (f : ℕ → ℤ) → n ≤ d → weight n f ≤ weight d f
weight-le n d f l = subst (λ m. weight n f ≤ weight m f) (Nat.sub-add_cancel l) (weight-longer n (d - n) f)

unfoldable pub running : ℕ → Element → Element → ℕ → ℕ → ℤ
running d a b k n = sum n (λ i. a i *ℤ rotate d i b k)

pub running-whole : (d : ℕ) (a b : Element) (k : ℕ) → running d a b k d ≡ product d a b k
unfolding running product
running-whole d a b k = refl

abbrev pub mu_weight : ℕ → ℕ → ℕ → ℕ → ℕ
mu_weight d a b c = weight d (signed (mu d a b c))

module _ (d : ℕ) (p : 0 < d) where
  pub running-bounded : (B : ℕ) (a b : Element) → Bounded d B b → (k n : ℕ) → k < d → n ≤ d → nat_abs (running d a b k n) ≤ weight d a * B
  unfolding running
  running-bounded B a b h k n lk ln =
      Nat.le_trans (products-bounded n B a (λ i. rotate d i b k) (λ i l. rotate-bounded d p B i b h k lk)) (Nat.mul-le-mul_right B (weight-le n d a ln))

  pub product-bounded : (B : ℕ) (a b : Element) → Bounded d B b → Bounded d (weight d a * B) (product d a b)
  product-bounded B a b h k l = subst (λ z. nat_abs z ≤ weight d a * B) (running-whole d a b k) (running-bounded B a b h k d l (Nat.le_refl d))

  -- ---- the weight is the norm of algebra

  pub weight-read : (a : Element) → weight d a ≡ N.norm1 d p (readℤ d p a)
  unfolding N.norm1
  weight-read a = weight_ext d (λ k l. sym (coef_readℤ d p a k l))

  weight-product : (a b : Element) → weight d (product d a b) ≤ weight d a * weight d b
  weight-product a b = omega (arith, weight-read (product d a b), ap (N.norm1 d p) (read-product ℤ-ring d p a b), N.norm1-mul d p (readℤ d p a) (readℤ d p b), ap₂ ◌*◌ (weight-read a) (weight-read b))

  weight-power : (e : ℕ) → weight d (power d e) ≡ 1
  weight-power e = weight-read (power d e) ∙ ap (N.norm1 d p) (read-power ℤ-ring d p e) ∙ N.norm1-X^ d p e

  weight_one : weight d one ≡ 1
  weight_one = weight-read one ∙ ap (N.norm1 d p) (read_one ℤ-ring d p) ∙ N.norm1-one d p

  -- ---- s, and μ: the product of two s, times 1 + X^(b+c)

  pub weight-s : (a b : ℕ) → weight d (s d a b) ≤ d
  weight-s a b = omega (arith, weight-read (s d a b), ap (N.norm1 d p) (read-s d p a b), A.norm1-s d p a b)

  module _ (a b c : ℕ) where
    weight-sum : weight d (plus one (power d (b + c))) ≤ 2
    unfolding plus
    weight-sum = omega (arith, weight-add d one (power d (b + c)), weight_one, weight-power (b + c))

    pub weight-mu_by : mu_weight d a b c ≤ weight d (s d a b) * weight d (s d a c) * 2
    unfolding mu
    weight-mu_by =
        Nat.le_trans (Nat.le_of_eq (weight_ext d (signed-coefficients d _)))
        (Nat.le_trans (weight-product _ _) (Nat.mul-le-mul (weight-product (s d a b) (s d a c)) weight-sum))

    pub weight-mu : mu_weight d a b c ≤ d * d * 2
    weight-mu = Nat.le_trans weight-mu_by (Nat.mul-le-mul_right 2 (Nat.mul-le-mul (weight-s a b) (weight-s a c)))
