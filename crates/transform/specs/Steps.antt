-- What the steps under the calls do to their lists.
--
--   Stands16 z v         the number v, which may be transformed, stands for z, where that is at most 2^16 from 0
--   Written P l n s m      m is the room s but for the first n places of strand l; there place k has a number of which P holds
--   with_product x y s j  the sum s of place j with the product of x and y there added
--   with_products x y s   the sums s with these products added
--   total s at n          the sum of n numbers of s from place `at` on
--   gathered s z          the list z filled with the sums of the numbers of each place of s, reduced
--   Multiple D F v        v stands for the element F, 2^D times
use Rattle.std.specs.Prelude.{◌≡◌, ℕ, zero, suc, ◌+◌, ◌*◌, ◌/◌, ◌%◌, ◌^◌, ◌<◌, ◌≤◌, List, length, ℤ, slice_index, unsigned_abs}
use Rattle.algebra.specs.Ring.{two, pow}
use Rattle.algebra.specs.Integers.{ofℤ}
use Rattle.protocol.specs.Basic.{Provided}
use Rattle.protocol.specs.Element.{Element}
use Rattle.residues.specs.Lists.{filled}
use Rattle.powers.specs.Powers.{modulus, K, res, seen}
use Rattle.transform.specs.Strands.{strands}

abbrev pub Stands16 : ℤ → ℕ → Type 0
Stands16 z v = (v < 4 * modulus) × Provided (unsigned_abs z ≤ 2 ^ 16) (res v ≡ ofℤ K z)

pub record Written (P : ℕ → ℕ → Type 0) (l n : ℕ) (s m : List ℕ) : Type 0 where
  pub same : length m ≡ length s
  pub done : (k : ℕ) → k < n → P k (slice_index m (k * strands + l))
  pub rest : (p : ℕ) → (p % strands ≡ l → n ≤ p / strands) → slice_index m p ≡ slice_index s p

-- the sums are kept modulo 2^32
abbrev pub with_product : List ℕ → List ℕ → List ℕ → ℕ → ℕ
with_product x y s j = (slice_index s j + slice_index x j % modulus * (slice_index y j % modulus)) % 2 ^ 32

abbrev pub with_products : List ℕ → List ℕ → List ℕ → List ℕ
with_products x y s = filled (with_product x y s) (length s) s

unfoldable pub total : List ℕ → ℕ → ℕ → ℕ
total s at zero = 0
total s at (suc n) = total s at n + slice_index s (at + n)

abbrev pub gathered : List ℕ → List ℕ → List ℕ
gathered s z = filled (λ k. total s (k * strands) strands % modulus) (length z) z

pub record Multiple (D : ℕ) (F : Element) (v : List ℕ) : Type 0 where
  pub long : length v ≡ 2 ^ D
  pub is : (k : ℕ) → k < 2 ^ D → seen v k ≡ K.mul (pow K (two K) D) (ofℤ K (F k))
