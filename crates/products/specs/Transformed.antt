-- Inner products by the transform, whose modulus is 12289.
--
--   TransformGiven z level ..  tables of a shape, whose inner products the transform of a level gives
--   TransformWritten z ..      the front of a table is overwritten with the inner product of each row modulo 12289, one behind the other
use Rattle.std.specs.Prelude.{List, ℕ, ℤ}
use Rattle.batches.specs.Batches.{Suits}
use Rattle.product_sums.specs.declared.Shape.{Shape}
use Rattle.product_sums.specs.Sums.{RowsGiven}
use Rattle.plain_products.specs.Sums.{RowsWritten}

pub record TransformGiven (z : Shape) (level : ℕ) (f : List ℤ) (g : List ℕ) (G : ℕ → List ℕ) : Type 0 where
  pub rows : RowsGiven z.sums 12289 z.degree z.elements z.rows z.stride f g G
  pub suits : Suits 12289 z.degree z.elements level

abbrev pub TransformWritten : Shape → List ℤ → (ℕ → List ℕ) → List ℕ → List ℕ → Type 0
TransformWritten z f G out after = RowsWritten z.sums 12289 z.degree z.elements z.rows f G out after
