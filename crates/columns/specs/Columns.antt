-- The product of an element of whole numbers with an element of residues, coefficient by coefficient, added to sums modulo 2^64.
--
--   narrow g             the element whose coefficients are the numbers of g modulo 2^32
--   add_columns d f g s  the sums s with the product of f and that element added
--   Columns d f g s      are lists of f, g and s numbers long enough for that
--   element i l          the numbers of a table of degree 4 from element i on, as the code lends them
--   add_table f g n s    the sums s with the products of the first n elements of two such tables added
--   Tables n f g s       are lists of f, g and s numbers long enough for that
use Rattle.std.specs.Prelude.{ℕ, zero, suc, ◌-◌, ◌*◌, ◌%◌, ◌^◌, ◌≤◌, List, length, get_or, take, drop, ℤ, pos, ◌+ℤ◌}
use Rattle.protocol.specs.Element.{Element, width, modulo, product, signed}
use Rattle.residues.specs.Lists.{filled}

unfoldable pub narrow : List ℕ → Element
narrow g k = pos (get_or g k 0 % 2 ^ 32)

unfoldable pub add_columns : ℕ → List ℤ → List ℕ → List ℕ → List ℕ
add_columns d f g s = filled (λ k. modulo (2 ^ 64) (pos (get_or s k 0) +ℤ product d (signed f) (narrow g) k)) d s

pub record Columns (d f g s : ℕ) : Type 0 where
  pub degree : d ≤ width
  pub coefficients : d ≤ f
  pub residues : d ≤ g
  pub sums : d ≤ s

abbrev pub element {ℓ} : {A : Type ℓ} → ℕ → List A → List A
element i l = take (length l - i * 4) (drop (i * 4) l)

unfoldable pub add_table : List ℤ → List ℕ → ℕ → List ℕ → List ℕ
add_table f g zero s = s
add_table f g (suc i) s = add_columns 4 (element i f) (element i g) (add_table f g i s)

pub record Tables (n f g s : ℕ) : Type 0 where
  pub coefficients : n * 4 ≤ f
  pub residues : n * 4 ≤ g
  pub sums : 4 ≤ s
