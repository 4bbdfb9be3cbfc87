-- The loop keeps: the first k numbers are the final element's.
use Rattle.std.proofs.Common.{◌≡◌}
use Rattle.protocol.specs.Element.{signed}
use Rattle.residues.specs.Lists.{filled}
use Rattle.extraction.proofs.vectors.load.Given as goal

abbrev pub invariant-loop-k : goal.invariant-loop-k
invariant-loop-k l = l.out ≡ filled (signed l.f) l.k l.fn.out
