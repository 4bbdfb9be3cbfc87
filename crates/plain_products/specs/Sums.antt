-- Inner products that are summed, and written row by row.
--
--   Summed q d F s t       the sums s and t stand for the element F modulo q, and there is room for them
--   inner_element sums ..  the inner product of two tables, or that of the sums of their halves
--   RowsWritten ..         the front of a table is overwritten with the inner product of each row, one behind the other
use Rattle.std.specs.Prelude.{Bool, List, ◌≡◌, ℕ, ◌*◌, ◌≤◌, ℤ}
use Rattle.protocol.specs.Element.{Element, reduced}
use Rattle.protocol.specs.Opening.{inner}
use Rattle.residues.specs.Lists.{filled}
use Rattle.half_sums.specs.Halves.{messages_of, keys_of}
use Rattle.product_sums.specs.Sums.{capacity, Stands}
use Rattle.plain_products.specs.Rowwise.{row_places}

pub record Summed (q d : ℕ) (F : Element) (s t : List ℕ) : Type 0 where
  pub count : ℕ
  pub few : count ≤ capacity
  pub stands : Stands q d F count s t

abbrev pub inner_element : Bool → ℕ → ℕ → ℕ → List ℤ → List ℕ → List ℕ
inner_element sums q d n f g = reduced q d (inner d n (messages_of sums d n f) (keys_of sums q d n g))

abbrev pub RowsWritten : Bool → ℕ → ℕ → ℕ → ℕ → List ℤ → (ℕ → List ℕ) → List ℕ → List ℕ → Type 0
RowsWritten sums q d n rows f G out after = after ≡ filled (row_places d (λ r. inner_element sums q d n f (G r))) (rows * d) out
