-- A leaf's vector is its final element; above the leaves the second half of the list starts as zeros and takes the share of each child. The measure is the height.
use Rattle.std.proofs.Common.{◌≡◌, length}
use Rattle.extraction.proofs.Branches.{Branch, Stage}
use Rattle.extraction.proofs.vectors.+node.Given as goal

abbrev pub decreases-node : goal.decreases-node
decreases-node l = l.h

abbrev pub invariant-loop-j : goal.invariant-loop-j
invariant-loop-j l = (length l.room ≡ length l.fn.room) × ((b : Branch l.settings l.challenges l.leaves l.h l.k l.first (length l.fn.ws)) → Stage b l.j l.ws)
