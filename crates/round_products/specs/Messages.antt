-- What the work on a message and a key asks of them.
--
--   from l p           the element whose coefficients stand from place p of the table l on
--   Small n l          they are small enough for inner products
--   Tables q d n ..    both have n elements, the key of residues, for inner products modulo an odd q
--   Halved q d h ..    both have two halves of h elements, for inner products of the halves' sums
use Rattle.std.specs.Prelude.{List, ◌≡◌, ℕ, ◌+◌, ◌*◌, ◌%◌, ◌^◌, ◌<◌, ◌≤◌, ℤ, pos, nat_abs, length, get_or}
use Rattle.protocol.specs.Element.{Element, width}
use Rattle.protocol.specs.Settings.{modulus_most}

abbrev pub from : List ℤ → ℕ → Element
from l p k = get_or l (p + k) (pos 0)

abbrev pub Small : ℕ → List ℤ → Type 0
Small n l = (j : ℕ) → j < n → nat_abs (get_or l j (pos 0)) ≤ 2 ^ 15

pub record Tables (q d n : ℕ) (message : List ℤ) (key : List ℕ) : Type 0 where
  pub modulus : 0 < q
  pub modulus_odd : q % 2 ≡ 1
  pub modulus_most_holds : q ≤ modulus_most
  pub degree : 0 < d
  pub degree_most : d ≤ width
  pub elements : n ≤ 256
  pub message_long : n * d ≤ length message
  pub key_long : n * d ≤ length key
  pub message_small : Small (n * d) message
  pub key_residues : (j : ℕ) → j < n * d → get_or key j 0 < q

pub record Halved (q d h : ℕ) (message : List ℤ) (key : List ℕ) : Type 0 where
  pub tables : Tables q d (2 * h) message key
  pub message_half : (j : ℕ) → j < 2 * (h * d) → nat_abs (get_or message j (pos 0)) ≤ 2 ^ 14
