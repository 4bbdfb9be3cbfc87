use Rattle.std.proofs.Common.{ltb, ◌^◌, arith}
use Rattle.ranges.proofs.Scan.{asked_goes_on, asked_ends}
use Rattle.ranges.proofs.tests.all_below_wide.Goals as goal

pub loop-x-preserved : goal.loop-x-preserved
loop-x-preserved c = let l = c.loop-x in asked_goes_on _ _ 0 l.x-index (ltb l.signs (2 ^ 63)) l.invariant (omega arith) (c.with_signs-signs.ensures c.if-limit-gt-SIGN.false)

pub returns : goal.returns
returns c = let l = c.loop-x in asked_ends _ _ 0 l.x-index (ltb l.signs (2 ^ 63)) l.invariant (omega arith)
