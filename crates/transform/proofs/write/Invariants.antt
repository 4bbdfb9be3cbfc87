-- The loop keeps: the first k places of the strand are written.
use Rattle.std.proofs.Common.{get_or}
use Rattle.transform.specs.Steps.{Written}
use Rattle.transform.proofs.write.Given as goal

abbrev pub invariant-loop-k : goal.invariant-loop-k
invariant-loop-k g l = (z : g.row.T.Denot) → Written (λ i. g.T.Placed.stands (get_or l.t i z)) l.l l.k l.fn.x l.x
