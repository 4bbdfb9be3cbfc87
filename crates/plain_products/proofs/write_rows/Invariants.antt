-- The elements of the first r rows are written.
use Rattle.std.proofs.Common.{◌≡◌, ℕ, ◌*◌, ◌≤◌, length}
use Rattle.protocol.specs.Element.{Element, width, reduced}
use Rattle.protocol.specs.Layout.{rows_most}
use Rattle.residues.specs.Lists.{filled}
use Rattle.modular.specs.Factors.{Modulus}
use Rattle.rows.specs.Rows.{woven}
use Rattle.plain_products.specs.Sums.{Summed}
use Rattle.plain_products.specs.Rowwise.{row_places}
use Rattle.plain_products.proofs.write_rows.Given as goal

abbrev pub invariant-loop-r : goal.invariant-loop-r
invariant-loop-r l =
    (l.at ≤ length l.fn.out)
    × ((F : ℕ → Element) → Modulus l.q × (l.d ≤ width) × (l.rows ≤ rows_most) × (l.d * l.rows ≤ length l.s) × (l.d * l.rows ≤ length l.t) × (l.rows * l.d ≤ length l.fn.out)
    × Summed l.q (l.d * l.rows) (woven l.rows F) l.s l.t
    → (l.at ≡ l.r * l.d) × (l.out ≡ filled (row_places l.d (λ i. reduced l.q l.d (F i))) (l.r * l.d) l.fn.out))
