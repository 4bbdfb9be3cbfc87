use Rattle.std.proofs.Common.{arith, rules}
use Rattle.ranges.proofs.Scan.{asked_goes_on, asked_ends}
use Rattle.ranges.proofs.tests.all_below.Goals as goal

pub loop-x-preserved : goal.loop-x-preserved
loop-x-preserved c = let l = c.loop-x in asked_goes_on _ _ 0 l.x-index l.good l.invariant (omega arith) (search rules)

pub returns : goal.returns
returns c = let l = c.loop-x in asked_ends _ _ 0 l.x-index l.good l.invariant (omega arith)
