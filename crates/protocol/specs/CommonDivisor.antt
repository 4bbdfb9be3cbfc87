-- PROTOCOL 6: the greatest common divisor of two numbers, by Euclid's algorithm.
--
--   euclid n a b                  at most n steps of it: (a, b) becomes (b, a mod b), until b is 0
--   greatest_common_divisor a b   the same to its end: b falls with every step, so b steps are enough
--   Greatest a b g                what makes g the greatest common divisor; proved of the above in proofs/CommonDivisor
use Rattle.std.specs.Prelude.{ℕ, zero, suc, ◌%◌}
use Rattle.std.specs.Int.{◌∣◌}

unfoldable pub euclid : ℕ → ℕ → ℕ → ℕ
euclid zero a b = a
euclid (suc n) a zero = a
euclid (suc n) a (suc b) = euclid n (suc b) (a % suc b)

unfoldable pub greatest_common_divisor : ℕ → ℕ → ℕ
greatest_common_divisor a b = euclid b a b

-- it divides both, and every number that divides both divides it
pub record Greatest (a b g : ℕ) : Type 0 where
  pub divides_first : g ∣ a
  pub divides_second : g ∣ b
  pub greatest : (e : ℕ) → e ∣ a → e ∣ b → e ∣ g
