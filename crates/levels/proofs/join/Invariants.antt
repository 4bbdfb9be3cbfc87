-- The loop keeps: the first i pairs are joined, the others are as they were.
use Rattle.levels.specs.Halves.{Pairs, JoinedPair}
use Rattle.levels.proofs.join.Given as goal

abbrev pub invariant-loop-i : goal.invariant-loop-i
invariant-loop-i l = Pairs (JoinedPair l.z) l.h l.i l.fn.s l.s
