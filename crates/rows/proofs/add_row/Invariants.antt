-- The loop keeps: the first k sums have their product added, the others are as they were.
use Rattle.std.proofs.Common.{◌≡◌, take}
use Rattle.residues.specs.Lists.{filled}
use Rattle.rows.specs.Rows.{narrowed}
use Rattle.rows.proofs.Rows.{row_cell}
use Rattle.rows.proofs.add_row.Given as goal

abbrev pub invariant-loop-k : goal.invariant-loop-k
invariant-loop-k l = l.front ≡ filled (row_cell l.row.times l.row.at (narrowed l.x) l.fn.sums) l.k (take l.d l.fn.sums)
