-- How large whole numbers are: what the functions on signed 64-bit numbers ask, so that no sum and no change of sign overflows.
--
--   Mirrorable d a x  the first d numbers of a are there, with room for twice as many in x, and their signs can be changed
--   Summable d a l    the first d numbers of a and of l are there, and small enough to be added
--   Doubling d k a    the first d numbers of a are there, and small enough to be divided by 1 − X^k; d is a power of two
--   Factors d k m e bound   numbers up to `bound` are small enough to be divided by 1 − X^k and by 1 − X^m and multiplied by 1 + X^e
--   Weighable d k m e a     the first d numbers of a are there, and are such numbers
use Rattle.std.specs.Prelude.{◌≡◌, List, ℕ, ◌+◌, ◌*◌, ◌^◌, ◌<◌, ◌≤◌, length, get_or, ℤ, pos, nat_abs}

pub record Mirrorable (d : ℕ) (a x : List ℤ) : Type 0 where
  pub long : d ≤ length a
  pub long_to : 2 * d ≤ length x
  pub within : (k : ℕ) → k < d → nat_abs (get_or a k (pos 0)) < 2 ^ 63

pub record Summable (d : ℕ) (a l : List ℤ) : Type 0 where
  pub long : d ≤ length a
  pub long_to : d ≤ length l
  pub bound : ℕ
  pub bound_to : ℕ
  pub within : (k : ℕ) → k < d → nat_abs (get_or a k (pos 0)) ≤ bound
  pub within_to : (k : ℕ) → k < d → nat_abs (get_or l k (pos 0)) ≤ bound_to
  pub room : bound_to + bound ≤ 2 ^ 62

pub record Doubling (d k : ℕ) (a : List ℤ) : Type 0 where
  pub log : ℕ
  pub log_most : log ≤ 7
  pub degree_is : d ≡ 2 ^ log
  pub some : 0 < k
  pub exponent : k < 2 * d
  pub long : d ≤ length a
  pub bound : ℕ
  pub within : (j : ℕ) → j < d → nat_abs (get_or a j (pos 0)) ≤ bound
  pub room : d * bound ≤ 2 ^ 62

pub record Factors (d k m e bound : ℕ) : Type 0 where
  pub log : ℕ
  pub log_most : log ≤ 7
  pub degree_is : d ≡ 2 ^ log
  pub first : (0 < k) × (k < 2 * d)
  pub second : (0 < m) × (m < 2 * d)
  pub exponent : e < 2 * d
  pub room : 2 * (d * (d * bound)) ≤ 2 ^ 62

pub record Weighable (d k m e : ℕ) (a : List ℤ) : Type 0 where
  pub long : d ≤ length a
  pub bound : ℕ
  pub factors : Factors d k m e bound
  pub within : (j : ℕ) → j < d → nat_abs (get_or a j (pos 0)) ≤ bound
