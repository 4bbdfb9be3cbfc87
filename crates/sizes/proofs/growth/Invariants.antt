-- g is the bound times the factor so often, capped.
use Rattle.std.proofs.Common.{◌≡◌, ◌<◌}
use Rattle.protocol.specs.Tree.{growth_limit}
use Rattle.protocol.specs.GrowthTest.{capped_power}
use Rattle.sizes.proofs.growth.Given as goal

abbrev pub invariant-loop-i : goal.invariant-loop-i
invariant-loop-i l = (0 < l.factor) × (l.g ≡ capped_power growth_limit l.factor l.initial.g l.i)
