-- Sums of products that stand for an element modulo q, and are joined once.
--
--   capacity               how many halves of 32 bits a sum has room for
--   Stands q d F count ..  the first d numbers of s and of t, sums over lower and over upper halves, stand for the element F modulo q, and each is at most
--                          `count` halves from 0
--   Columned q d m f g     one element of each kind, the first within ±m, for a product by columns
--   Addable q c d m f ..   an element within ±m, whose products with c strands may be added to sums
--   Summable q d n f g     two tables, whose inner product is of n elements; the first is within ±magnitude
--   Given sums q d n f g   two such tables, or two whose halves have n elements and may be added
--   Within sums d n m f    the elements of f that are multiplied are within ±m
--   RowsGiven ..           a table f and the rows of a key g, which begin at the distance `stride`: row r begins with the numbers of G r
--   Rooms d c ..           rooms of these lengths hold an element of each table, the strands of one woven, prepared, and their sums
--   Zero l                 all numbers of l are 0
use Rattle.std.specs.Prelude.{Bool, true, false, List, ◌≡◌, ℕ, ◌+◌, ◌*◌, ◌^◌, ◌<◌, ◌≤◌, ℤ, nat_abs, length, get_or}
use Rattle.protocol.specs.Element.{Element, width}
use Rattle.protocol.specs.Layout.{rows_most}
use Rattle.protocol.specs.Settings.{modulus_most}
use Rattle.joins.specs.Sums as joined
pub use Rattle.half_sums.specs.Halves.{Elements, Small, key_sums, Halves}
unfoldable pub use Rattle.half_sums.specs.Halves.{message_sums, key_sum_at, size_of, messages_of, keys_of}

-- 256 elements of 128 numbers of 15 bits
abbrev pub capacity : ℕ
capacity = 2 ^ 30

-- an element of d numbers within ±m adds at most d·m halves
pub record Stands (q d : ℕ) (F : Element) (count : ℕ) (s t : List ℕ) : Type 0 where
  pub each : (k : ℕ) → k < d → joined.Halves q (F k) (count * 2 ^ 32) (get_or s k 0) (get_or t k 0)

pub record Columned (q d m : ℕ) (f : List ℤ) (g : List ℕ) : Type 0 where
  pub elements : Elements q d 1 (length f) (length g)
  pub small : Small m d f
  pub residues : (j : ℕ) → j < d → get_or g j 0 < q

pub record Addable (q c d m : ℕ) (f : List ℤ) (s t : ℕ) : Type 0 where
  pub modulus : 0 < q
  pub modulus_most_holds : q ≤ 2 ^ 61
  pub some : 0 < c
  pub strands : c ≤ rows_most
  pub degree : 0 < d
  pub degree_most : d ≤ width
  pub long : d ≤ length f
  pub small : Small m d f
  pub lowers : d * c ≤ s
  pub uppers : d * c ≤ t

pub record Summable (q d n : ℕ) (f : List ℤ) (g : List ℕ) : Type 0 where
  pub elements : Elements q d n (length f) (length g)
  pub magnitude : ℕ
  pub magnitude_most : magnitude ≤ 2 ^ 16
  pub few : n * d * magnitude ≤ capacity
  pub small : Small magnitude (n * d) f
  pub modulus_most_holds : q ≤ modulus_most
  pub residues : (j : ℕ) → j < n * d → get_or g j 0 < q

unfoldable pub Given : Bool → ℕ → ℕ → ℕ → List ℤ → List ℕ → Type 0
Given true q d n = Halves q d n
Given false q d n = Summable q d n

pub record Within (sums : Bool) (d n m : ℕ) (f : List ℤ) : Type 0 where
  pub each : (i j : ℕ) → i < n → j < d → nat_abs (messages_of sums d n f i j) ≤ m

pub record RowsGiven (sums : Bool) (q d n rows stride : ℕ) (f : List ℤ) (g : List ℕ) (G : ℕ → List ℕ) : Type 0 where
  pub some : 0 < rows
  pub most : rows ≤ rows_most
  pub long : (r : ℕ) → r < rows → r * stride + size_of sums d n ≤ length g
  pub alike : (r p : ℕ) → r < rows → p < size_of sums d n → get_or g (r * stride + p) 0 ≡ get_or (G r) p 0
  pub given : (r : ℕ) → r < rows → Given sums q d n f (G r)

pub record Rooms (d c m a k x s t : ℕ) : Type 0 where
  pub message : d ≤ m
  pub key : d ≤ a
  pub strands : d * c ≤ k
  pub prepared : 3 * (d * c) ≤ x
  pub lowers : d * c ≤ s
  pub uppers : d * c ≤ t

abbrev pub Zero : List ℕ → Type 0
Zero l = (k : ℕ) → get_or l k 0 ≡ 0
