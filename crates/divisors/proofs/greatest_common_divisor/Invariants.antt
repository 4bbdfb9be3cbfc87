-- The greatest common divisor of the two numbers stays; the second falls.
use Rattle.std.proofs.Common.{◌≡◌}
use Rattle.protocol.specs.CommonDivisor.{greatest_common_divisor}
use Rattle.divisors.proofs.greatest_common_divisor.Given as goal

abbrev pub invariant-loop-second : goal.invariant-loop-second
invariant-loop-second l = greatest_common_divisor l.first l.second ≡ greatest_common_divisor l.a l.b

abbrev pub decreases-loop-second : goal.decreases-loop-second
decreases-loop-second l = l.second
