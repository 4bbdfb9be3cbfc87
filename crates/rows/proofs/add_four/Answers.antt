use Rattle.std.proofs.Common.{◌∙◌, arith, length-take-le}
use Rattle.residues.proofs.Fill.{filled_none}
use Rattle.residues.proofs.Adding.{front_filled}
use Rattle.rows.specs.Rows.{narrowed}
use Rattle.rows.proofs.Rows.{four-turn, four-done}
use Rattle.rows.proofs.add_four.Goals as goal

pub loop-k-init : goal.loop-k-init
loop-k-init c = filled_none _ _

pub loop-k-preserved : goal.loop-k-preserved
loop-k-preserved c =
    let a = c.args in
    let l = c.loop-k in
    four-turn a.r0.times a.r0.at a.r1.times a.r1.at a.r2.times a.r2.at a.r3.times a.r3.at (narrowed a.x.now) a.d a.sums.now l.front l.k _ _ _ _ l.invariant
    (omega (arith, length-take-le a.d a.sums.now (omega arith))) (omega arith) c.plus_scaled-first.ensures c.plus_scaled-second.ensures c.plus_scaled-third.ensures c.plus_scaled.ensures

pub returns : goal.returns
returns c =
    let a = c.args in
    front_filled _ a.d a.sums.now (omega arith) c.loop-k.invariant (omega arith) (omega arith)
    ∙ four-done a.r0.times a.r0.at a.r1.times a.r1.at a.r2.times a.r2.at a.r3.times a.r3.at (narrowed a.x.now) a.d a.sums.now
