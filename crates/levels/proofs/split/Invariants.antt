-- The loop keeps: the first i pairs are split, the others are as they were.
use Rattle.levels.specs.Halves.{Pairs, SplitPair}
use Rattle.levels.proofs.split.Given as goal

abbrev pub invariant-loop-i : goal.invariant-loop-i
invariant-loop-i l = Pairs (SplitPair l.z) l.h l.i l.fn.s l.s
