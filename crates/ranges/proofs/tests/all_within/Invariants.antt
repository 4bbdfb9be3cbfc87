-- What is known, and the numbers that are left, decide.
use Rattle.std.proofs.Common.{◌≡◌, ◌&&◌, drop}
use Rattle.protocol.specs.Basic.{all, within}
use Rattle.ranges.proofs.tests.all_within.Given as goal

abbrev pub invariant-loop-x : goal.invariant-loop-x
invariant-loop-x g l = all (λ x. within (g.T.Signed.bound l.most) (g.T.Signed.number x)) l.t ≡ (l.good && all (λ x. within (g.T.Signed.bound l.most) (g.T.Signed.number x)) (drop l.x-index l.t))
