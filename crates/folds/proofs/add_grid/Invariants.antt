-- The loop keeps: on the first j lines the sums stand, all other places are as they were.
use Rattle.residues.specs.Places.{Grid, Added}
use Rattle.folds.proofs.add_grid.Given as goal

abbrev pub invariant-loop-j : goal.invariant-loop-j
invariant-loop-j g l = Added g.T.Entry.NONE (g.S.Sum.allowed l.by) (g.S.Sum.sum l.by l.negative) l.from l.to (Grid l.n l.step l.gap l.j) l.fn.t l.t
