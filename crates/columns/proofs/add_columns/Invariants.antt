-- The loop keeps: the first k sums have their coefficient added, the others are as they were.
use Rattle.std.proofs.Common.{◌≡◌, get_or, take, pos, ◌+ℤ◌}
use Rattle.protocol.specs.Element.{product, signed}
use Rattle.residues.specs.Lists.{filled}
use Rattle.columns.specs.Columns.{narrow}
use Rattle.columns.proofs.Words.{word}
use Rattle.columns.proofs.add_columns.Given as goal

abbrev pub invariant-loop-k : goal.invariant-loop-k
invariant-loop-k l = l.front ≡ filled (λ i. word (pos (get_or l.fn.sums i 0) +ℤ product l.d (signed l.f) (narrow l.g) i)) l.k (take l.d l.fn.sums)
