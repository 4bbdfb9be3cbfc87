-- The loop keeps: the first k sums are in place, the others are as they were.
use Rattle.std.proofs.Common.{◌≡◌, ◌*◌, ◌%◌}
use Rattle.residues.specs.Lists.{filled}
use Rattle.transform.specs.Strands.{strands}
use Rattle.transform.specs.Steps.{total}
use Rattle.transform.proofs.gather.Given as goal

abbrev pub invariant-loop-k : goal.invariant-loop-k
invariant-loop-k l = l.out ≡ filled (λ i. total l.sums (i * strands) strands % 12289) l.k l.fn.out
