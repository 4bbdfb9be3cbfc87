-- What is said of tables of a shape.
--
--   ShapeGiven z f g G    a table f and the rows of a key g, of which inner products may be taken: row r begins with the numbers of G r
--   one_row q d n         the shape of two tables of n elements
--   messages_in z f       the elements of f that are multiplied
--   keys_in z g           those of a row g
use Rattle.std.specs.Prelude.{false, List, ℕ, ℤ}
use Rattle.protocol.specs.Element.{Element}
use Rattle.product_sums.specs.declared.Shape.{Shape}
use Rattle.half_sums.specs.Halves.{messages_of, keys_of}
use Rattle.product_sums.specs.Sums.{RowsGiven}

abbrev pub ShapeGiven : Shape → List ℤ → List ℕ → (ℕ → List ℕ) → Type 0
ShapeGiven z f g G = RowsGiven z.sums z.modulus z.degree z.elements z.rows z.stride f g G

abbrev pub one_row : ℕ → ℕ → ℕ → Shape
one_row q d n = record { sums = false; modulus = q; degree = d; elements = n; rows = 1; stride = 0 }

abbrev pub messages_in : Shape → List ℤ → ℕ → Element
messages_in z f = messages_of z.sums z.degree z.elements f

abbrev pub keys_in : Shape → List ℕ → ℕ → Element
keys_in z g = keys_of z.sums z.modulus z.degree z.elements g
