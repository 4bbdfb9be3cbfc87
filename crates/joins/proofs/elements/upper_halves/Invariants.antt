-- The loop keeps: the first numbers are halved, the others are as they were.
use Rattle.std.proofs.Common.{◌≡◌, get_or, take}
use Rattle.residues.specs.Lists.{filled}
use Rattle.joins.specs.Sums.{upper_half}
use Rattle.joins.proofs.elements.upper_halves.Given as goal

abbrev pub invariant-loop-y : goal.invariant-loop-y
invariant-loop-y l = l.front ≡ filled (λ j. upper_half (get_or l.fn.x j 0)) l.y-index (take l.n l.fn.x)
