use Rattle.std.proofs.Common.{refl}
use Rattle.protocol.specs.Settings.{bound_allowed}
use Rattle.ranges.proofs.tests.bound_allowed.Statement.{statement}
use Rattle.ranges.proofs.tests.bound_allowed.Tie as tie

returns : tie.Need-returns
unfolding bound_allowed
returns c = refl

pub bound_allowed_spec : {M : Type 1} → statement M
bound_allowed_spec = tie.close (tie.spec returns)
