-- Sums over the two halves of residues, and what they stand for when they are joined.
--
--   weight              2^32: what an upper half counts for
--   lower_half x        the lower 32 bits of x
--   upper_half x        what is above them: x is lower_half x + weight·upper_half x
--   room                2^62: how far from 0 a sum may be that is joined
--   Halves q z b s t    the numbers s and t of 64 bits are sums over lower and over upper halves, at most b from 0, that stand for z modulo q; a modulus of 32
--                       bits has no upper halves, and their sum stays 0
--   Ready q j           j joins sums modulo q: its offset is a multiple of q that makes a sum positive and leaves it below 2^64; the weight is ready where
--                       there are upper halves
--   Stand q d F s t     the first d sums of s and of t stand for the element F modulo q, and may be joined
--   Strands c r d out   strand r of c, which have d numbers each, has room in a list of `out` numbers
use Rattle.std.specs.Prelude.{◌≡◌, ℕ, ◌/◌, ◌%◌, ◌^◌, ◌<◌, ◌≤◌, List, length, ℤ, pos, ◌+ℤ◌, ◌*ℤ◌, slice_index, unsigned_abs}
use Rattle.protocol.specs.Element.{Element, width, modulo}
use Rattle.protocol.specs.Layout.{rows_most}
use Rattle.modular.specs.Factors.{Modulus, Prepared}
use Rattle.joins.specs.declared.Joint.{Joint}

abbrev pub weight : ℕ
weight = 2 ^ 32

abbrev pub lower_half : ℕ → ℕ
lower_half x = x % weight

abbrev pub upper_half : ℕ → ℕ
upper_half x = x / weight

abbrev pub room : ℕ
room = 2 ^ 62

pub record Halves (q : ℕ) (z : ℤ) (b s t : ℕ) : Type 0 where
  pub lower : ℤ
  pub upper : ℤ
  pub lower_size : unsigned_abs lower ≤ b
  pub upper_size : unsigned_abs upper ≤ b
  pub lower_bits : s ≡ modulo (2 ^ 64) lower
  pub upper_bits : t ≡ modulo (2 ^ 64) upper
  pub value : modulo q (lower +ℤ pos weight *ℤ upper) ≡ modulo q z
  pub none : q < weight → t ≡ 0

pub record Ready (q : ℕ) (j : Joint) : Type 0 where
  pub allowed : Modulus q
  pub modulus : j.modulus ≡ q
  pub weighted : weight ≤ q → Prepared q weight j.weight
  pub divided : j.offset % q ≡ 0
  pub least : room ≤ j.offset
  pub most : j.offset ≤ 2 ^ 63

pub record Stand (q d : ℕ) (F : Element) (s t : List ℕ) : Type 0 where
  pub lowers : d ≤ length s
  pub uppers : d ≤ length t
  pub each : (k : ℕ) → k < d → Halves q (F k) room (slice_index s k) (slice_index t k)

pub record Strands (c r d out : ℕ) : Type 0 where
  pub few : c ≤ rows_most
  pub degree : d ≤ width
  pub inside : r < c
  pub room : d ≤ out
