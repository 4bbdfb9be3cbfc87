use Rattle.std.proofs.Common.{◌≡◌, ◌*◌, length}
use Rattle.protocol.specs.Basic.{Provided}
use Rattle.opening_checks.specs.Checks.{RowsRead}
use Rattle.opening_checks.proofs.Rowwise.{RowsSoFar}
use Rattle.opening_checks.proofs.check_rows.Given as goal

abbrev pub invariant-loop-r : goal.invariant-loop-r
invariant-loop-r l =
    (length l.claims ≡ length l.initial.claims)
    × Provided (RowsRead l.settings l.t (length l.initial.claims) l.rounds) (RowsSoFar l.settings l.t l.e l.initial.claims l.rounds l.r (l.r * l.settings.degree) l.met l.claims)
