-- Sixteen elements side by side, and sums of products of their transforms.
--
--   strands                 16: how many elements are transformed together
--   value_at D F j        the value of the element F of degree 2^D at the root of place j
--   Room D x              room for sixteen elements of degree 2^D, in numbers that may be transformed
--   Filled D n F x        such a room whose first n strands stand for the elements F 0, F 1, …, modulo 12289
--   Values D F x          such a room in which the elements F 0, F 1, … are transformed: each place has their values at its root
--   MessagePlaced D d l .. an element f of whole numbers, which is to be strand l of a room
--   ResiduesPlaced D d l .. an element g of residues, which is to be
--   Stands D F count s    sums that stand for the element F: at each place the sixteen sums add up to the value of F; `count` products were added to each
--   capacity              28: how many products a sum has room for
--   Added D F G H ..      what has to hold so that a batch of products is added to sums that stand for H
use Rattle.std.specs.Prelude.{◌≡◌, ℕ, ◌+◌, ◌*◌, ◌^◌, ◌<◌, ◌≤◌, List, length, ℤ, pos, slice_index, slice_index_or, unsigned_abs}
use Rattle.algebra.specs.Sum.{sum}
use Rattle.algebra.specs.Integers.{ofℤ}
use Rattle.algebra.specs.Transform.{value}
use Rattle.protocol.specs.Element.{Element, signed, residue}
use Rattle.powers.specs.Powers.{modulus, K, Below, seen, root}

abbrev pub strands : ℕ
strands = 16

unfoldable pub value_at : ℕ → Element → ℕ → K.C
value_at D F j = value K (2 ^ D) (λ k. ofℤ K (F k)) (root D 128 j)

pub record Room (D : ℕ) (x : List ℕ) : Type 0 where
  pub long : length x ≡ 2 ^ D * strands
  pub below : Below (4 * modulus) x

pub record Filled (D n : ℕ) (F : ℕ → Element) (x : List ℕ) : Type 0 where
  pub room : Room D x
  pub each : (l k : ℕ) → l < n → k < 2 ^ D → seen x (k * strands + l) ≡ ofℤ K (F l k)

pub record Values (D : ℕ) (F : ℕ → Element) (x : List ℕ) : Type 0 where
  pub room : Room D x
  pub each : (j l : ℕ) → j < 2 ^ D → l < strands → seen x (j * strands + l) ≡ value_at D (F l) j

pub record MessagePlaced (D d l : ℕ) (f : List ℤ) (F : ℕ → Element) (x : List ℕ) : Type 0 where
  pub degree : d ≡ 2 ^ D
  pub inside : l < strands
  pub long : d ≤ length f
  pub small : (k : ℕ) → k < d → unsigned_abs (slice_index_or f k (pos 0)) ≤ 2 ^ 16
  pub is : (k : ℕ) → k < d → signed f k ≡ F l k
  pub before : Filled D l F x

pub record ResiduesPlaced (D d l : ℕ) (g : List ℕ) (G : ℕ → Element) (y : List ℕ) : Type 0 where
  pub degree : d ≡ 2 ^ D
  pub inside : l < strands
  pub long : d ≤ length g
  pub residues : (k : ℕ) → k < d → slice_index g k < modulus
  pub is : (k : ℕ) → k < d → residue g k ≡ G l k
  pub before : Filled D l G y

pub record Stands (D : ℕ) (F : Element) (count : ℕ) (s : List ℕ) : Type 0 where
  pub long : length s ≡ 2 ^ D * strands
  pub most : (k : ℕ) → slice_index s k ≤ count * (12288 * 12288)
  pub is : (j : ℕ) → j < 2 ^ D → sum K strands (λ l. seen s (j * strands + l)) ≡ value_at D F j

abbrev pub capacity : ℕ
capacity = 28

pub record Added (D : ℕ) (F G : ℕ → Element) (H : Element) (count : ℕ) (x y s : List ℕ) : Type 0 where
  pub most : D ≤ 7
  pub fits : count < capacity
  pub x_values : Values D F x
  pub y_filled : Filled D strands G y
  pub stands : Stands D H count s
