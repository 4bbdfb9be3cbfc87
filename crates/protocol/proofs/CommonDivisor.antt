-- Laws of the greatest common divisor: it is what its name says, it is the only such number, Euclid's steps keep it, and a power of 4 shares no factor with an
-- odd number.
use mathlib.Core.Path.{◌≡◌, refl, ap, ◌∙◌, subst}
use Prim.Native.Nat.{ℕ, zero, suc, ◌+◌, ◌*◌, ◌/◌, ◌%◌, ◌^◌, ◌<◌, ◌≤◌, ◌∣◌}
use native.Mathlib.Nat as Nat
use native.Mathlib.Omega.{arith}
use Rattle.protocol.specs.CommonDivisor.{euclid, greatest_common_divisor, Greatest}

-- ---- Euclid's steps

rest_below : (a b : ℕ) → a % suc b ≤ b
rest_below a b = Nat.le_of_suc-le-suc (Nat.mod-lt a {m = suc b} (omega arith))

-- as many steps as b are enough
enough : (n m a b : ℕ) → b ≤ n → b ≤ m → euclid n a b ≡ euclid m a b
unfolding euclid
enough zero zero a b h l = refl
enough zero (suc m) a zero h l = refl
enough zero (suc m) a (suc b) h l = absurd (Nat.not-suc-le-zero h)
enough (suc n) zero a zero h l = refl
enough (suc n) zero a (suc b) h l = absurd (Nat.not-suc-le-zero l)
enough (suc n) (suc m) a zero h l = refl
enough (suc n) (suc m) a (suc b) h l =
    enough n m (suc b) (a % suc b) (Nat.le_trans (rest_below a b) (Nat.le_of_suc-le-suc h)) (Nat.le_trans (rest_below a b) (Nat.le_of_suc-le-suc l))

pub divisor_zero : (a : ℕ) → greatest_common_divisor a 0 ≡ a
unfolding greatest_common_divisor euclid
divisor_zero a = refl

pub divisor_step : (a b : ℕ) → 0 < b → greatest_common_divisor a b ≡ greatest_common_divisor b (a % b)
unfolding greatest_common_divisor euclid
divisor_step a zero h = absurd (Nat.not-suc-le-zero h)
divisor_step a (suc b) h = enough b (a % suc b) (suc b) (a % suc b) (rest_below a b) (Nat.le_refl _)

-- ---- it is the greatest common divisor

euclid-greatest : (n a b : ℕ) → b ≤ n → Greatest a b (euclid n a b)
unfolding euclid
euclid-greatest zero a zero h = record { divides_first = Nat.dvd_refl a; divides_second = Nat.dvd-zero a; greatest = λ e p r. p }
euclid-greatest zero a (suc b) h = absurd (Nat.not-suc-le-zero h)
euclid-greatest (suc n) a zero h = record { divides_first = Nat.dvd_refl a; divides_second = Nat.dvd-zero a; greatest = λ e p r. p }
euclid-greatest (suc n) a (suc b) h =
    let next = euclid-greatest n (suc b) (a % suc b) (Nat.le_trans (rest_below a b) (Nat.le_of_suc-le-suc h)) in
    record {
      divides_first = (Nat.dvd-mod_iff _ {m = a} next.divides_first).0 next.divides_second;
      divides_second = next.divides_first;
      greatest = λ e p r. next.greatest e r ((Nat.dvd-mod_iff e {m = a} r).1 p);
    }

pub is_greatest : (a b : ℕ) → Greatest a b (greatest_common_divisor a b)
unfolding greatest_common_divisor
is_greatest a b = euclid-greatest b a b (Nat.le_refl b)

-- no other number is
pub greatest_only : (a b g : ℕ) → Greatest a b g → g ≡ greatest_common_divisor a b
greatest_only a b g other =
    let it = is_greatest a b in
    Nat.dvd_antisymm (it.greatest g other.divides_first other.divides_second) (other.greatest _ it.divides_first it.divides_second)

-- ---- powers of 4

-- a divisor of an odd number is odd
odd_divisor : (e q : ℕ) → e ∣ q → q % 2 ≡ 1 → e % 2 ≡ 1
odd_divisor e q d odd = by_rest (e % 2) refl
  where
    by_rest : (r : ℕ) → e % 2 ≡ r → e % 2 ≡ 1
    by_rest zero even = absurd (omega (arith, Nat.mod-eq-zero_of_dvd 2 (Nat.dvd_trans 2 (Nat.dvd_of_mod-eq-zero 2 even) d)))
    by_rest (suc r) z = omega arith

-- an odd divisor of 2·m divides m
odd-half : (e m : ℕ) → e % 2 ≡ 1 → e ∣ 2 * m → e ∣ m
odd-half e m odd d =
    let h = e / 2 in
    let split : e ≡ 2 * h + 1 = omega arith in
    let as-sum : m * e ≡ 2 * m * h + m = ap (λ x. m * x) split ∙ omega (arith, Nat.mul-add m (2 * h) 1, Nat.mul_assoc m 2 h, Nat.mul_comm m 2, Nat.mul-one m) in
    (Nat.dvd-add_iff_right e (Nat.dvd-mul_right_of_dvd e d h)).1 (subst (λ x. e ∣ x) as-sum (Nat.dvd-mul_left e m))

odd_power : (L e : ℕ) → e % 2 ≡ 1 → e ∣ 4 ^ L → e ≡ 1
odd_power zero e odd d = Nat.eq-one_of_dvd-one d
odd_power (suc L) e odd d = odd_power L e odd (odd-half e _ odd (odd-half e _ odd (subst (λ x. e ∣ x) (Nat.pow-succ' 4 L ∙ omega arith) d)))

pub power_of_four : (L q : ℕ) → q % 2 ≡ 1 → greatest_common_divisor (4 ^ L) q ≡ 1
power_of_four L q odd = let it = is_greatest (4 ^ L) q in odd_power L _ (odd_divisor _ q it.divides_second odd) it.divides_first
