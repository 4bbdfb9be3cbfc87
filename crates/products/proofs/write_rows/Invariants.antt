-- The elements of the first rows are written.
use Rattle.std.proofs.Common.{ℕ, ◌*◌, ◌≤◌, List, length, ℤ}
use Rattle.batches.specs.Batches.{Ready}
use Rattle.product_sums.specs.Shapes.{messages_in}
use Rattle.plain_products.specs.Sums.{inner_element}
use Rattle.products.specs.Transformed.{TransformGiven}
use Rattle.products.proofs.Rows.{Written}
use Rattle.products.proofs.write_rows.Given as goal

abbrev pub invariant-loop : goal.invariant-loop
invariant-loop l =
    let z = l.shape in (l.from ≤ length l.g) × (l.at ≤ length l.fn.out)
    × ((f : List ℤ) (G : ℕ → List ℕ) → TransformGiven z l.level f l.g G × (z.rows * z.degree ≤ length l.fn.out) × Ready l.level z.degree z.elements (messages_in z f) l.x
    × (z.elements * z.degree ≤ length l.x)
    → Written z.degree z.rows z.stride (λ i. inner_element z.sums 12289 z.degree z.elements f (G i)) l.fn.out l.counter l.from l.at l.out)
