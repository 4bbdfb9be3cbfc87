-- The first k sums are in place, the others are as they were.
use Rattle.std.proofs.Common.{◌≡◌}
use Rattle.protocol.specs.Basic.{Provided}
use Rattle.residues.specs.Lists.{filled}
use Rattle.residues.specs.Residues.{Residues}
use Rattle.opening_rounds.specs.Rounds.{sum_at}
use Rattle.opening_rounds.proofs.add_table.Given as goal

abbrev pub invariant-loop-k : goal.invariant-loop-k
invariant-loop-k l = Provided (Residues l.q l.n 0 l.fn.out × Residues l.q l.n 0 l.y) (l.out ≡ filled (sum_at l.q l.fn.out l.y) l.k l.fn.out)
