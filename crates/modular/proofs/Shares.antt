-- The share of a factor in q, digit by digit, and the quotient that is estimated with it.
use Rattle.std.proofs.Common.{◌≡◌, ℕ, ◌+◌, ◌-◌, ◌*◌, ◌/◌, ◌%◌, ◌^◌, ◌<◌, ◌≤◌, sym, ap, ◌∙◌, arith, pow_mono, pow-add}
use native.Mathlib.Nat as Nat
use lib.Arith.{digits_div}

-- ---- the digits of y·P/q, for a power P

pub record Digits (q y P digits rest : ℕ) : Type 0 where
  pub small : rest < q
  pub whole : y * P ≡ digits * q + rest

module _ (q y : ℕ) (l : y < q) where
  pub digits_first : (P : ℕ) → Digits q y P (P * y / q) (P * y % q)
  digits_first P = record { small = Nat.mod-lt (P * y) (omega arith); whole = Nat.mul_comm y P ∙ sym (Nat.div-add-mod' (P * y) q) }

  module _ (P digits rest : ℕ) (D : Digits q y P digits rest) where
    pub digits_small : 0 < P → digits < P
    digits_small p =
        Nat.lt_of_mul-lt-mul_right q {m = digits} {n = P} (
        Nat.lt_of_le_of_lt {m = y * P} (omega (arith, D.whole)) (Nat.lt_of_lt_of_le (Nat.mul-lt-mul_of_pos_right {m = y} {n = q} {k = P} l p) (Nat.le_of_eq (Nat.mul_comm q P))))

    pub digit_small : 8 * rest / q < 8
    digit_small = (Nat.div-lt_iff_lt-mul {k = q} {x = 8 * rest} {y = 8} (omega arith)).1 (omega (arith, D.small))

    pub digits_more : Digits q y (8 * P) (8 * digits + 8 * rest / q) (8 * rest % q)
    digits_more = record {
      small = Nat.mod-lt (8 * rest) (omega arith);
      whole = omega (arith, D.whole, Nat.mul_left_comm y 8 P, Nat.add-mul (8 * digits) (8 * rest / q) q, Nat.mul_assoc 8 digits q, Nat.div-add-mod' (8 * rest) q);
    }

    pub digits_done : digits ≡ y * P / q
    digits_done = sym (ap (λ n. n / q) D.whole ∙ digits_div digits D.small)

-- the power after one binary and i octal digits
abbrev pub power : ℕ → ℕ
power i = 2 ^ (3 * i + 1)

pub power_more : (i : ℕ) → 8 * power i ≡ power (i + 1)
power_more i = sym (ap (λ n. 2 ^ n) {x = 3 * (i + 1) + 1} {y = 3 + (3 * i + 1)} (omega arith) ∙ pow-add 2 3 (3 * i + 1))

pub power_most : (i : ℕ) → i < 21 → power i ≤ 2 ^ 61
power_most i l = pow_mono {i = 3 * i + 1} {j = 61} (omega arith)

-- ---- the estimate: never too large, and at most 1 too small

sum-high : (n a b e q : ℕ) → 0 < q → n * 2 ^ 64 ≤ a + b → a + q ≤ (e + q) * 2 ^ 64 → b + q ≤ 2 ^ 64 * q → n * 2 ^ 64 < (e + 2 * q) * 2 ^ 64
sum-high n a b e q p f g h = omega arith

-- s is y·2^64/q, and e is x·s/2^64, both rounded down
module _ (q y x s e : ℕ) (p : 0 < q) (fits : x < 2 ^ 64) (es : s ≡ y * 2 ^ 64 / q) (ee : e ≡ x * s / 2 ^ 64) where
  share-low : s * q ≤ y * 2 ^ 64
  share-low = Nat.le_trans (Nat.le_of_eq (ap (λ n. n * q) es)) (Nat.div-mul-le_self (y * 2 ^ 64) q)

  share-high : y * 2 ^ 64 ≤ s * q + q
  share-high = Nat.le_trans (Nat.le_of_lt (Nat.lt-div-mul-add {a = y * 2 ^ 64} {b = q} p)) (Nat.le_of_eq (ap (λ n. n * q + q) (sym es)))

  pub estimate_low : e * q ≤ x * y
  estimate_low = Nat.le_of_mul-le-mul_right {m = e * q} {n = x * y} {k = 2 ^ 64} (
      omega (
        arith,
        Nat.mul-le-mul_right {m = e * 2 ^ 64} {n = x * s} q (omega arith),
        Nat.mul_right_comm e (2 ^ 64) q,
        Nat.mul_assoc x s q,
        Nat.mul-le-mul_left x share-low,
        Nat.mul_assoc x y (2 ^ 64),
      )) (omega arith)

  product_most : x * y * 2 ^ 64 ≤ x * s * q + x * q
  product_most = Nat.le_trans (Nat.le_of_eq (Nat.mul_assoc x y (2 ^ 64)))
      (Nat.le_trans (Nat.mul-le-mul_left x share-high) (Nat.le_of_eq (Nat.mul-add x (s * q) q ∙ ap (λ n. n + x * q) (sym (Nat.mul_assoc x s q)))))

  quotient_most : x * s * q + q ≤ (e * q + q) * 2 ^ 64
  quotient_most = omega (arith, Nat.mul-le-mul_right {m = x * s + 1} {n = (e + 1) * 2 ^ 64} q (omega arith), Nat.add-mul (x * s) 1 q, Nat.mul_right_comm (e + 1) (2 ^ 64) q, Nat.add-mul e 1 q)

  pub estimate_high : x * y < e * q + 2 * q
  estimate_high = Nat.lt_of_mul-lt-mul_right (2 ^ 64) {m = x * y} {n = e * q + 2 * q} (
      sum-high (x * y) (x * s * q) (x * q) (e * q) q p product_most quotient_most (Nat.le_trans (Nat.le_of_eq (sym (Nat.suc-mul x q))) (Nat.mul-le-mul_right q fits)))

-- a difference of words, where the difference itself is a word
words : (N E b r : ℕ) → E ≤ N → N < E + b → b ≤ 2 ^ 64 → r < 2 ^ 64 → (r + E % 2 ^ 64) % 2 ^ 64 ≡ N % 2 ^ 64 → N ≡ r + E
words N E b r low high few fits w = omega arith

-- what is left when the estimate's multiple of q is taken away, and less q where that still goes; the factor's residue is y
module _ (q y x s e m z : ℕ) (p : 0 < q) (most : q ≤ 2 ^ 61) (fits : x < 2 ^ 64) (es : s ≡ y * 2 ^ 64 / q) (ee : e ≡ x * s / 2 ^ 64) (em : m ≡ q) (ez : z ≡ y) where
  abbrev rest : ℕ
  rest = (x * z % 2 ^ 64 + (2 ^ 64 - e * m % 2 ^ 64)) % 2 ^ 64

  left : x * y ≡ rest + e * q
  left = words (x * y) (e * q) (2 * q) rest (estimate_low q y x s e p fits es ee) (estimate_high q y x s e p fits es ee) (omega arith) (Nat.mod-lt _ (omega arith))
      (ap (λ n. (rest + n) % 2 ^ 64) (ap (λ n. e * n % 2 ^ 64) (sym em)) ∙ back (x * z) (e * m) ∙ ap (λ n. x * n % 2 ^ 64) ez)
    where
      back : (a b : ℕ) → ((a % 2 ^ 64 + (2 ^ 64 - b % 2 ^ 64)) % 2 ^ 64 + b % 2 ^ 64) % 2 ^ 64 ≡ a % 2 ^ 64
      back a b = omega arith

  rest-is : (k n : ℕ) → x * y ≡ n + k * q → n < q → n ≡ x * y % q
  rest-is k n is l = sym (ap (λ m. m % q) is ∙ Nat.add-mul-mod_self_right n k q ∙ Nat.mod-eq_of_lt l)

  pub rest_below : rest < m → rest ≡ x * y % q
  rest_below h = rest-is e rest left (omega (arith, em, h))

  pub rest_above : m ≤ rest → rest - m ≡ x * y % q
  rest_above h = ap (λ n. rest - n) em ∙ rest-is (e + 1) (rest - q) (omega (arith, left, em, h, Nat.add-mul e 1 q)) (omega (arith, left, em, h, estimate_high q y x s e p fits es ee))
