-- The sums stand for the inner product of the first i elements.
use Rattle.std.proofs.Common.{ℕ, ◌*◌, List, length}
use Rattle.protocol.specs.Opening.{inner}
use Rattle.rows.specs.Rows.{woven}
use Rattle.product_sums.specs.Sums.{Stands, Zero, Rooms, Within}
use Rattle.product_sums.specs.Shapes.{ShapeGiven, messages_in, keys_in}
use Rattle.product_sums.proofs.add_elements.Given as goal

abbrev pub invariant-loop-i : goal.invariant-loop-i
invariant-loop-i l =
    let z = l.shape in
    (G : ℕ → List ℕ) (c : ℕ) → ShapeGiven z l.f l.g G × Within z.sums z.degree z.elements c l.f
    × Rooms z.degree z.rows (length l.fn.m) (length l.fn.a) (length l.fn.k) (length l.fn.x) (length l.fn.s) (length l.fn.t) × Zero l.fn.s × Zero l.fn.t
    → Stands z.modulus (z.degree * z.rows) (woven z.rows (λ r. inner z.degree l.i (messages_in z l.f) (keys_in z (G r)))) (l.i * (z.degree * c)) l.s l.t
