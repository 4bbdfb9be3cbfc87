-- Folds by all challenges as one sum of rotated elements.
--
--   turn w s j           the exponent that element j of 2^s gets: the sum of the challenges at its set bits, w r being the one at the bit of weight 2^r
--   at_bit L E s         the challenge at the bit of weight 2^s: bit 1, the most significant of L, has the first
--   turned_sum S E T n   the sum of the first n elements of the table T, each times X to its exponent
--   OnCircle c m e x     e and the first m numbers of x are exponents on a circle of c places
--   Turned c L E s x     the first 2^s numbers of x are the exponents of 2^s elements, on a circle of c places
--   Turning S m part ..  the degree is allowed, `part` begins with an element of residues, and `sums` with an element of residues modulo m
--   ElementRead S m i .. the settings are allowed, the key has residues only and an element i, and `sums` begins with an element of residues modulo m
--   Added m S key x i .. sums modulo m with element i of the key added, times X to the power that x has for it
--   Summable S n ..      the settings are allowed, the key has residues only and n elements, and `sums` begins with an element of zeros
--   Summed m S key ..    such sums after n elements of the key, each times X to the power that x has for it: modulo q, or modulo 2^64 where they are reduced later
use Rattle.std.specs.Prelude.{◌≡◌, ℕ, zero, suc, ◌+◌, ◌-◌, ◌*◌, ◌/◌, ◌%◌, ◌^◌, ◌<◌, ◌≤◌, List, length, pos, ◌+ℤ◌, slice_index}
use Rattle.protocol.specs.declared.Settings.{Settings}
use Rattle.protocol.specs.Basic.{sum}
use Rattle.protocol.specs.Element.{Element, width, modulo, rotate, residue_at}
use Rattle.protocol.specs.Settings.{settings_refusal}
use Rattle.residues.specs.Residues.{Residues}

unfoldable pub turn : (ℕ → ℕ) → ℕ → ℕ → ℕ
turn w zero j = 0
turn w (suc s) j = turn w s (j % 2 ^ s) + j / 2 ^ s * w s

abbrev pub at_bit : ℕ → List ℕ → ℕ → ℕ
at_bit L E s = slice_index E (L - suc s)

unfoldable pub turned_sum : Settings → List ℕ → (ℕ → Element) → ℕ → Element
turned_sum S E T n k = sum n (λ j. rotate S.degree (turn (at_bit S.depth E) S.depth j) (T j) k)

pub record OnCircle (c m e : ℕ) (x : List ℕ) : Type 0 where
  pub more : e < c
  pub each : (j : ℕ) → j < m → slice_index x j < c

abbrev pub Turned : ℕ → ℕ → List ℕ → ℕ → List ℕ → Type 0
Turned c L E s x = (j : ℕ) → j < 2 ^ s → slice_index x j ≡ turn (at_bit L E) s j % c

pub record Turning (S : Settings) (m : ℕ) (part sums : List ℕ) : Type 0 where
  pub degree : 0 < S.degree
  pub degree_most : S.degree ≤ width
  pub added : Residues S.modulus S.degree 0 part
  pub own : Residues m S.degree 0 sums

pub record ElementRead (S : Settings) (m i : ℕ) (key sums : List ℕ) : Type 0 where
  pub allowed : settings_refusal S ≡ 0
  pub inside : i * S.degree + S.degree ≤ length key
  pub key_below : (j : ℕ) → slice_index key j < S.modulus
  pub room : S.degree ≤ length sums
  pub own : (k : ℕ) → k < S.degree → slice_index sums k < m

abbrev pub Added : ℕ → Settings → List ℕ → List ℕ → ℕ → List ℕ → List ℕ → Type 0
Added m S key x i sums sums' =
    (k : ℕ) → k < S.degree → slice_index sums' k ≡ modulo m (pos (slice_index sums k) +ℤ rotate S.degree (slice_index x i) (residue_at S.degree key i) k)

pub record Summable (S : Settings) (n : ℕ) (key sums : List ℕ) : Type 0 where
  pub allowed : settings_refusal S ≡ 0
  pub inside : n * S.degree ≤ length key
  pub key_below : (j : ℕ) → slice_index key j < S.modulus
  pub room : S.degree ≤ length sums
  pub empty : (k : ℕ) → k < S.degree → slice_index sums k ≡ 0

abbrev pub Summed : ℕ → Settings → List ℕ → List ℕ → ℕ → List ℕ → Type 0
Summed m S key x n sums =
    (k : ℕ) → k < S.degree → slice_index sums k ≡ modulo m (sum n (λ j. rotate S.degree (slice_index x j) (residue_at S.degree key j) k))
