-- The loops keep: the rows so far are added.
use Rattle.std.proofs.Common.{◌≡◌, ◌*◌}
use Rattle.rows.specs.Rows.{narrowed, add_rows}
use Rattle.rows.proofs.add_rows.Given as goal

abbrev pub invariant-loop-i : goal.invariant-loop-i
invariant-loop-i l = l.sums ≡ add_rows l.strands l.d l.f (narrowed l.x) (4 * l.i) l.fn.sums

abbrev pub invariant-loop-j : goal.invariant-loop-j
invariant-loop-j l = l.sums ≡ add_rows l.strands l.d l.f (narrowed l.x) l.j l.fn.sums
