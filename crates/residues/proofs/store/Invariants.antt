-- The loop keeps: the first k numbers are in place, the others are as they were.
use Rattle.std.proofs.Common.{◌≡◌, get_or}
use Rattle.residues.specs.Lists.{filled}
use Rattle.residues.proofs.store.Given as goal

abbrev pub invariant-loop-k : goal.invariant-loop-k
invariant-loop-k g l = l.part ≡ filled (λ j. get_or l.row j g.T.Entry.NONE) l.k l.initial.part
