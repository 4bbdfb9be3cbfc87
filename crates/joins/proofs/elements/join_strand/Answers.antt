use Rattle.std.proofs.Common.{ℕ, ◌+◌, ◌*◌, ◌<◌, List, get_or, subst, arith, length-take-le}
use Rattle.protocol.specs.Element.{Element}
use Rattle.protocol.proofs.Reading.{cell-inside}
use Rattle.residues.proofs.Fill.{filled_none, filled-turn}
use Rattle.residues.proofs.Adding.{front_filled}
use Rattle.rows.specs.Rows.{woven}
use Rattle.rows.proofs.Extension.{woven_at}
use Rattle.joins.specs.Sums.{room, Halves, Stand}
use Rattle.joins.proofs.elements.join_strand.Goals as goal

strand-halves : (q c d r k : ℕ) (F : ℕ → Element) (s t : List ℕ) → r < c → k < d → Stand q (d * c) (woven c F) s t → Halves q (F r k) room (get_or s (k * c + r) 0) (get_or t (k * c + r) 0)
strand-halves q c d r k F s t lr lk S = subst (λ z. Halves q z room (get_or s (k * c + r) 0) (get_or t (k * c + r) 0)) (woven_at c r lr F k) (S.each (k * c + r) (cell-inside c d k r lk lr))

pub loop-k-init : goal.loop-k-init
loop-k-init c = λ q F R S. filled_none _ _

pub loop-k-preserved : goal.loop-k-preserved
loop-k-preserved c = λ q F R S.
    let a = c.args in
    let l = c.loop-k in
    let inside : l.k < a.d = omega (arith, length-take-le a.d a.out.now (omega arith)) in
    filled-turn _ l.k _ (l.invariant q F R S) (c.join.ensures q (F a.r l.k) (R, strand-halves q a.strands a.d a.r l.k F a.s.now a.t.now (omega arith) inside S)) (omega arith)

pub returns : goal.returns
returns c = λ q F g. let a = c.args in front_filled _ a.d a.out.now (omega arith) (c.loop-k.invariant q F g.0 g.2) (omega arith) (omega arith)
