-- The loop keeps: the first k numbers are added, the others are as they were.
use Rattle.residues.proofs.Adding.{RowKept}
use Rattle.rotations.proofs.add_row.Given as goal

abbrev pub invariant-loop-k : goal.invariant-loop-k
invariant-loop-k g l = RowKept g.T.Entry.NONE (g.S.Sum.allowed l.by) (g.S.Sum.sum l.by l.negative) l.fn.sums l.row l.k l.sums
