-- The loop keeps: the first j numbers of the strand are in place.
use Rattle.strands.specs.Strands.{StrandIn}
use Rattle.strands.proofs.weave.Given as goal

abbrev pub invariant-loop-j : goal.invariant-loop-j
invariant-loop-j l = StrandIn l.strands l.r l.j l.a l.fn.k l.k
