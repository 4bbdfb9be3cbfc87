use Rattle.std.proofs.Common.{arith}
use Rattle.residues.proofs.Fill.{filled_none}
use Rattle.residues.proofs.Adding.{filled-all, row_kept}
use Rattle.residues.proofs.sums.add_row.Goals as goal

pub loop-k-init : goal.loop-k-init
loop-k-init g c = λ _. filled_none _ _

pub loop-k-preserved : goal.loop-k-preserved
loop-k-preserved g c =
    let a = c.args in
    let l = c.loop-k in
    row_kept g.T.Entry.NONE (g.S.Sum.allowed a.by) (g.S.Sum.sum a.by a.negative) a.sums.now a.row.now l.sums l.k l.invariant (omega arith) (omega arith) _ _ c.index-row-k.is c.add.ensures

pub returns-clause-added : goal.returns-clause-added
returns-clause-added g c = λ _ h. filled-all _ c.args.sums.now (c.loop-k.invariant h) (omega arith) (omega arith)
