-- The products of an element of whole numbers with the strands of an element of residues, by rows that are added to sums modulo 2^64.
--
--   strand c r a j     number j of strand r of the element a, which has c of them: it stands at place j·c + r
--   woven c F          the element whose strands are F 0, F 1, .. F (c − 1)
--   turned q d a y     what stands at place y of the element a, going round by X^d = −1, modulo q: at the places 0 to 3d − 1 each
--                      rotation of a, and its negative, is d of them in a row
--   start d z j        where X^j·a, or for a negative z its negative, begins among them
--   narrowed x y       number y of the list x modulo 2^32, which is what a row reads of it
--   add_row d m at ..  the sums s with m times the d residues from place `at` on added
--   next_row c d f x j s  the sums s with row j added, which is f_j·X^j·a in each of c strands a of d numbers
--   add_rows c d f x j    the sums after the first j rows
--   add_four c d f x j s  the sums s with the four rows from row j on added
--   total n f         f 0 + f 1 + … + f (n − 1)
--   term c d f x p j  what row j adds to sum p
--   Rows c d ..       are the tables of a product long enough
--   Residues q d a    the first d numbers of a are residues
--   Preparable q d a .. may the element a be prepared in a room of a length
--   Prepared q d a x  the element a is prepared at the front of x
use Rattle.std.specs.Prelude.{◌≡◌, ℕ, zero, suc, ◌+◌, ◌-◌, ◌*◌, ◌/◌, ◌%◌, ◌^◌, ◌<◌, ◌≤◌, List, ◌++◌, length, drop, ℤ, pos, negsuc, slice_index, slice_index_or, unsigned_abs}
use Rattle.protocol.specs.Basic.{tabulate}
use Rattle.protocol.specs.Element.{Element, width, modulo, around}
use Rattle.protocol.specs.Layout.{rows_most, rows_width}

unfoldable pub strand : ℕ → ℕ → Element → Element
strand c r a j = a (j * c + r)

unfoldable pub woven : ℕ → (ℕ → Element) → Element
woven c F p = F (p % c) (p / c)

unfoldable pub turned : ℕ → ℕ → Element → ℕ → ℕ
turned q d a y = modulo q (around d a y)

unfoldable pub start : ℕ → ℤ → ℕ → ℕ
start d (pos n) j = d + d - j
start d (negsuc n) j = d - j

abbrev pub narrowed : List ℕ → ℕ → ℕ
narrowed x y = slice_index x y % 2 ^ 32

unfoldable pub add_row : ℕ → ℕ → ℕ → (ℕ → ℕ) → List ℕ → List ℕ
add_row d m at x s = tabulate d (λ k. (slice_index s k + m * x (at + k)) % 2 ^ 64) ++ drop d s

abbrev pub next_row : ℕ → ℕ → List ℤ → (ℕ → ℕ) → ℕ → List ℕ → List ℕ
next_row c d f x j s = add_row (d * c) (unsigned_abs (slice_index_or f j (pos 0))) (start (d * c) (slice_index_or f j (pos 0)) (j * c)) x s

unfoldable pub add_rows : ℕ → ℕ → List ℤ → (ℕ → ℕ) → ℕ → List ℕ → List ℕ
add_rows c d f x zero s = s
add_rows c d f x (suc j) s = next_row c d f x j (add_rows c d f x j s)

unfoldable pub add_four : ℕ → ℕ → List ℤ → (ℕ → ℕ) → ℕ → List ℕ → List ℕ
add_four c d f x j s = next_row c d f x (j + 3) (next_row c d f x (j + 2) (next_row c d f x (j + 1) (next_row c d f x j s)))

unfoldable pub total : ℕ → (ℕ → ℕ) → ℕ
total zero f = 0
total (suc n) f = total n f + f n

unfoldable pub term : ℕ → ℕ → List ℤ → (ℕ → ℕ) → ℕ → ℕ → ℕ
term c d f x p j = unsigned_abs (slice_index_or f j (pos 0)) * x (start (d * c) (slice_index_or f j (pos 0)) (j * c) + p)

-- f has d coefficients, x has room for a prepared element of c strands, and there are so many sums
pub record Rows (c d f x s : ℕ) : Type 0 where
  pub some : 0 < c
  pub strands : c ≤ rows_most
  pub degree : d ≤ width
  pub coefficients : d ≤ f
  pub residues : 3 * (d * c) ≤ x
  pub sums : d * c ≤ s

pub record Residues (q d : ℕ) (a : List ℕ) : Type 0 where
  pub each : (k : ℕ) → k < d → slice_index a k < q

pub record Preparable (q d : ℕ) (a : List ℕ) (room : ℕ) : Type 0 where
  pub degree : 0 < d
  pub degree_most : d ≤ rows_width
  pub coefficients : d ≤ length a
  pub residues : Residues q d a
  pub places : 3 * d ≤ room

pub record Prepared (q d : ℕ) (a : Element) (x : List ℕ) : Type 0 where
  pub places : 3 * d ≤ length x
  pub each : (y : ℕ) → y < 3 * d → slice_index x y ≡ turned q d a y
