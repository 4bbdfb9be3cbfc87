-- The first k places agree.
use Rattle.std.proofs.Common.{◌≡◌, true}
use Rattle.protocol.specs.Basic.{every}
use Rattle.judge.proofs.Same.{same}
use Rattle.judge.proofs.combination.opens.Given as goal

abbrev pub invariant-loop-k : goal.invariant-loop-k
invariant-loop-k l = every l.k (same l.q l.c l.commitment l.sums) ≡ true
