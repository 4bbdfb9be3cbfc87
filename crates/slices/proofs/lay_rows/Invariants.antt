-- The first r rows are written one behind the other.
use Rattle.std.proofs.Common.{◌≡◌, ◌+◌, ◌*◌, ◌≤◌, length, get_or}
use Rattle.protocol.specs.Basic.{Provided}
use Rattle.protocol.specs.Element.{value_row}
use Rattle.protocol.specs.Layout.{rows_width}
use Rattle.residues.specs.Lists.{spliced_rows}
use Rattle.slices.proofs.lay_rows.Given as goal

abbrev pub invariant-loop-r : goal.invariant-loop-r
invariant-loop-r l =
    Provided ((length l.a ≡ rows_width) × (l.at + l.rows * l.d ≤ length l.initial.out))
    (l.out ≡ spliced_rows (λ r k. get_or (value_row l.a r) k 0) l.at l.d l.r l.initial.out)
