-- Multiples X^e·a that are added, and the values of polynomials at X^e.
--
--   Summands q n from ..       n numbers of a list that is added and n of the list that it is added to are there, and are residues
--   Addable q d e ..           may X^e·a be added so: such numbers, and an exponent below 2d
--   Turnable q d a out         the lists a and out begin with an element of residues each, of a degree that there is
--   Gatherable d a sums        lists of these lengths begin with an element each, of a degree that there is
--   plus_turned q d e ..       coefficient k of the element at a place of a list, with X^e·a added, modulo q
--   value_at q d e c0 c1 c2 k  coefficient k of c0 + X^e·c1 + X^2e·c2, modulo q
--   values_of q d e ..         the same of elements in lists
--   Coefficients q d ..        three elements of residues
--   Valuable q d ..            such three of a degree that there is, with room for an element
--   Adds sum allowed by q ..   the way `by` to add is addition modulo q, and allows each number of the element a beside each of out
--   Valued                     the promise of `value`
use Rattle.std.specs.Prelude.{◌≡◌, ℕ, ◌+◌, ◌*◌, ◌<◌, ◌≤◌, Bool, List, length, pos, ◌+ℤ◌, slice_index}
use Rattle.protocol.specs.Basic.{Provided}
use Rattle.protocol.specs.Element.{Element, width, modulo, rotate, residue}
use Rattle.residues.specs.Lists.{spliced}
use Rattle.residues.specs.Residues.{Residues, signed}

pub record Summands (q n from : ℕ) (a : List ℕ) (to : ℕ) (out : List ℕ) : Type 0 where
  pub added : Residues q n from a
  pub own : Residues q n to out

pub record Addable (q d e : ℕ) (a : List ℕ) (to : ℕ) (out : List ℕ) : Type 0 where
  pub exponent : e < 2 * d
  pub summands : Summands q d 0 a to out

pub record Turnable (q d : ℕ) (a out : List ℕ) : Type 0 where
  pub degree : 0 < d
  pub degree_most : d ≤ width
  pub summands : Summands q d 0 a 0 out

pub record Gatherable (d a sums : ℕ) : Type 0 where
  pub degree : 0 < d
  pub degree_most : d ≤ width
  pub there : d ≤ a
  pub room : d ≤ sums

abbrev pub plus_turned : ℕ → ℕ → ℕ → List ℕ → ℕ → List ℕ → ℕ → ℕ
plus_turned q d e a at out k = modulo q (pos (slice_index out (at + k)) +ℤ rotate d e (residue a) k)

unfoldable pub value_at : ℕ → ℕ → ℕ → Element → Element → Element → ℕ → ℕ
value_at q d e c0 c1 c2 k = modulo q (c0 k +ℤ rotate d e c1 k +ℤ rotate d e (rotate d e c2) k)

abbrev pub values_of : ℕ → ℕ → ℕ → List ℕ → List ℕ → List ℕ → ℕ → ℕ
values_of q d e c0 c1 c2 = value_at q d e (residue c0) (residue c1) (residue c2)

pub record Coefficients (q d : ℕ) (c0 c1 c2 : List ℕ) : Type 0 where
  pub modulus : 0 < q
  pub first : Residues q d 0 c0
  pub second : Residues q d 0 c1
  pub third : Residues q d 0 c2

pub record Valuable (q d : ℕ) (c0 c1 c2 out : List ℕ) : Type 0 where
  pub degree : 0 < d
  pub degree_most : d ≤ width
  pub coefficients : Coefficients q d c0 c1 c2
  pub room : d ≤ length out

pub record Adds {S : Type 0} (sum : S → Bool → ℕ → ℕ → ℕ) (allowed : S → ℕ → ℕ → Type 0) (by : S) (q d : ℕ) (a out : List ℕ) : Type 0 where
  pub is : (n : Bool) (x y : ℕ) → sum by n x y ≡ modulo q (pos x +ℤ signed n (pos y))
  pub may : (j k : ℕ) → j < d → k < d → allowed by (slice_index out j) (slice_index a k)

-- ---- what the functions promise: `after` is the list that stood for `out` before

abbrev pub Valued : ℕ → ℕ → ℕ → List ℕ → List ℕ → List ℕ → List ℕ → List ℕ → Type 0
Valued q d e c0 c1 c2 out after = Provided (Valuable q d c0 c1 c2 out) (after ≡ spliced (values_of q d e c0 c1 c2) 0 d out)
