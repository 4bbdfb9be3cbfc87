-- When an inner product goes by the transform, and what is transformed. `sums` says that the tables' halves are added: then these have n elements.
--
--   Zero l                  every number of l is 0
--   Suits q d n r           the transform of level r suits inner products of n elements of degree d modulo q
--   most sums               how far from 0 the numbers of a message may be
--   MessageGiven sums d n f a message of n elements, small enough to be transformed
--   KeyGiven sums d n g     a key of n elements
--   Ready D d n F x         the elements F 0, …, F (n − 1) are transformed in x, sixteen behind the other sixteen
use Rattle.std.specs.Prelude.{Bool, true, false, List, ◌≡◌, ℕ, ◌+◌, ◌*◌, ◌/◌, ◌%◌, ◌^◌, ◌<◌, ◌≤◌, ℤ, length, get_or, take, drop}
use Rattle.protocol.specs.Element.{Element}
use Rattle.transform.specs.Strands.{strands, Values}
use Rattle.half_sums.specs.Halves.{Small, size_of}

abbrev pub Zero : List ℕ → Type 0
Zero l = (k : ℕ) → get_or l k 0 ≡ 0

pub record Suits (q d n r : ℕ) : Type 0 where
  pub modulus : q ≡ 12289
  pub most : r ≤ 7
  pub degree : d ≡ 2 ^ r
  pub whole : n % 16 ≡ 0
  pub few : n ≤ 256

unfoldable pub most : Bool → ℕ
most true = 2 ^ 15
most false = 2 ^ 16

pub record MessageGiven (sums : Bool) (d n : ℕ) (f : List ℤ) : Type 0 where
  pub long : size_of sums d n ≤ length f
  pub small : Small (most sums) (size_of sums d n) f

pub record KeyGiven (sums : Bool) (d n : ℕ) (g : List ℕ) : Type 0 where
  pub long : size_of sums d n ≤ length g
  pub residues : (j : ℕ) → j < size_of sums d n → get_or g j 0 < 12289

abbrev pub Ready : ℕ → ℕ → ℕ → (ℕ → Element) → List ℕ → Type 0
Ready D d n F x = (t : ℕ) → t < n / strands → Values D (λ l. F (t * strands + l)) (take (d * strands) (drop (t * (d * strands)) x))
