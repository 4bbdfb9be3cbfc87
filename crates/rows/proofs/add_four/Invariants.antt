-- The loop keeps: the first k sums have their four products added, the others are as they were.
use Rattle.std.proofs.Common.{◌≡◌, take}
use Rattle.residues.specs.Lists.{filled}
use Rattle.rows.specs.Rows.{narrowed}
use Rattle.rows.proofs.Rows.{four_cell}
use Rattle.rows.proofs.add_four.Given as goal

abbrev pub invariant-loop-k : goal.invariant-loop-k
invariant-loop-k l =
    l.front ≡ filled (four_cell l.r0.times l.r0.at l.r1.times l.r1.at l.r2.times l.r2.at l.r3.times l.r3.at (narrowed l.x) l.fn.sums) l.k (take l.d l.fn.sums)
