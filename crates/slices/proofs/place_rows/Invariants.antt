-- The first r rows are written.
use Rattle.std.proofs.Common.{◌≡◌, ◌*◌, ◌≤◌, length}
use Rattle.protocol.specs.Basic.{Provided}
use Rattle.protocol.specs.Layout.{rows_width}
use Rattle.slices.specs.Slices.{placed}
use Rattle.slices.proofs.place_rows.Given as goal

abbrev pub invariant-loop-r : goal.invariant-loop-r
invariant-loop-r l = Provided ((l.rows * l.d ≤ length l.t) × (length l.initial.out ≡ rows_width)) (l.out ≡ placed l.d l.r l.t l.initial.out)
