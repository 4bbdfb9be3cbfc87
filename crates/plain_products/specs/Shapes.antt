-- Inner products of tables of a shape.
--
--   Inside z f g           tables of f and g numbers have what is multiplied of them
--   inner_in z f g         the inner product of two tables, or that of the sums of their halves
--   ShapeWritten z f G ..  the front of a table is overwritten with the inner product of each row, one behind the other
use Rattle.std.specs.Prelude.{List, ℕ, ◌≤◌, ℤ}
use Rattle.protocol.specs.Element.{Element}
use Rattle.protocol.specs.Opening.{inner}
use Rattle.half_sums.specs.Halves.{size_of}
use Rattle.product_sums.specs.declared.Shape.{Shape}
use Rattle.product_sums.specs.Shapes.{messages_in, keys_in}
use Rattle.plain_products.specs.Sums.{RowsWritten}

pub record Inside (z : Shape) (f g : ℕ) : Type 0 where
  pub first : size_of z.sums z.degree z.elements ≤ f
  pub second : size_of z.sums z.degree z.elements ≤ g

abbrev pub inner_in : Shape → List ℤ → List ℕ → Element
inner_in z f g = inner z.degree z.elements (messages_in z f) (keys_in z g)

abbrev pub ShapeWritten : Shape → List ℤ → (ℕ → List ℕ) → List ℕ → List ℕ → Type 0
ShapeWritten z f G out after = RowsWritten z.sums z.modulus z.degree z.elements z.rows f G out after
