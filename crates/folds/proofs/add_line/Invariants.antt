-- The loop keeps: at the first i places the sums stand, all other places are as they were.
use Rattle.residues.specs.Places.{Line, Added}
use Rattle.folds.proofs.add_line.Given as goal

abbrev pub invariant-loop-i : goal.invariant-loop-i
invariant-loop-i g l = Added g.T.Entry.NONE (g.S.Sum.allowed l.by) (g.S.Sum.sum l.by l.negative) l.from l.to (Line l.at l.step l.i) l.fn.t l.t
