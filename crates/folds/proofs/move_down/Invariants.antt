-- The loop keeps: the first k numbers are in place, the others are as they were.
use Rattle.std.proofs.Common.{◌≡◌, ◌+◌, length, get_or}
use Rattle.residues.specs.Lists.{spliced}
use Rattle.folds.proofs.move_down.Given as goal

abbrev pub invariant-loop-k : goal.invariant-loop-k
invariant-loop-k l = (l.t ≡ spliced (λ j. get_or l.initial.t (l.from + j) 0) l.to l.k l.initial.t) × (length l.t ≡ length l.initial.t)
