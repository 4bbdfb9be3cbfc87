use Rattle.std.proofs.Common.{refl}
use Rattle.protocol.specs.Settings.{modulus_allowed}
use Rattle.ranges.proofs.tests.modulus_allowed.Statement.{statement}
use Rattle.ranges.proofs.tests.modulus_allowed.Tie as tie

returns : tie.Need-returns
unfolding modulus_allowed
returns c = refl

pub modulus_allowed_spec : {M : Type 1} → statement M
modulus_allowed_spec = tie.close (tie.spec returns)
