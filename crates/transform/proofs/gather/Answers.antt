use Rattle.std.proofs.Common.{arith}
use Rattle.residues.proofs.Fill.{filled_none, filled-turn, filled-end}
use Rattle.transform.proofs.gather.Goals as goal

pub loop-k-init : goal.loop-k-init
loop-k-init c = filled_none _ _

pub loop-k-preserved : goal.loop-k-preserved
loop-k-preserved c = let l = c.loop-k in filled-turn _ l.k _ l.invariant c.added.ensures (omega arith)

pub returns : goal.returns
returns c = filled-end _ _ c.loop-k.invariant (omega arith)
