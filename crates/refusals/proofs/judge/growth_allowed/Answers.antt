-- The capped number decides.
use Rattle.std.proofs.Common.{ap, ◌∙◌, arith, leb}
use Rattle.protocol.specs.Tree.{growth_limit}
use Rattle.protocol.proofs.Inputs.{settings-valid}
use Rattle.protocol.proofs.GrowthTest.{growth-capped}
use Rattle.sizes.proofs.Limits.{degree_least}
use Rattle.refusals.proofs.judge.growth_allowed.Goals as goal

pub returns : goal.returns
unfolding growth_limit
returns c e = let S = c.args.settings in ap (λ g. leb g growth_limit) (c.growth.ensures e) ∙ growth-capped S (omega (arith, degree_least S (settings-valid S e)))
