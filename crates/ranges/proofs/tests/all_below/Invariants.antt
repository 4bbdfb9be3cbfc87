-- What is known, and the numbers that are left, decide.
use Rattle.std.proofs.Common.{◌≡◌, ◌&&◌, ltb, drop}
use Rattle.protocol.specs.Basic.{all}
use Rattle.ranges.proofs.tests.all_below.Given as goal

abbrev pub invariant-loop-x : goal.invariant-loop-x
invariant-loop-x l = all (λ x. ltb x l.limit) l.t ≡ (l.good && all (λ x. ltb x l.limit) (drop l.x-index l.t))
