use Rattle.std.proofs.Common.{refl, rules}
use Rattle.protocol.specs.Settings.{rows_allowed}
use Rattle.ranges.proofs.tests.rows_allowed.Statement.{statement}
use Rattle.ranges.proofs.tests.rows_allowed.Tie as tie

returns : tie.Need-returns
unfolding rows_allowed
returns c = refl

pub rows_allowed_spec : {M : Type 1} → statement M
rows_allowed_spec = tie.close (tie.spec (λ c. search rules) returns)
