use Rattle.std.proofs.Common.{◌∙◌, arith, length-take-le}
use Rattle.residues.proofs.Fill.{filled_none}
use Rattle.residues.proofs.Adding.{front_filled}
use Rattle.rows.specs.Rows.{narrowed}
use Rattle.rows.proofs.Rows.{row_turn, row_done}
use Rattle.rows.proofs.add_row.Goals as goal

pub loop-k-init : goal.loop-k-init
loop-k-init c = filled_none _ _

pub loop-k-preserved : goal.loop-k-preserved
loop-k-preserved c =
    let a = c.args in
    let l = c.loop-k in
    row_turn a.row.times a.row.at (narrowed a.x.now) a.d a.sums.now l.front l.k _ l.invariant (omega (arith, length-take-le a.d a.sums.now (omega arith))) (omega arith) c.plus_scaled.ensures

pub returns : goal.returns
returns c =
    let a = c.args in
    front_filled _ a.d a.sums.now (omega arith) c.loop-k.invariant (omega arith) (omega arith) ∙ row_done a.row.times a.row.at (narrowed a.x.now) a.d a.sums.now
