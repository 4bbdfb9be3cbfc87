-- The first k numbers are in place, the others are as they were.
use Rattle.std.proofs.Common.{◌≡◌}
use Rattle.protocol.specs.Basic.{Provided}
use Rattle.residues.specs.Lists.{spliced}
use Rattle.residues.specs.Residues.{Residues}
use Rattle.opening_rounds.specs.Rounds.{Halvables, middle_at}
use Rattle.opening_rounds.proofs.write_middle.Given as goal

abbrev pub invariant-loop-k : goal.invariant-loop-k
invariant-loop-k l = Provided (Residues l.q l.n l.n l.fn.p × Halvables l.q l.n l.claim) (l.p ≡ spliced (middle_at l.q l.n l.claim l.fn.p) l.n l.k l.fn.p)
