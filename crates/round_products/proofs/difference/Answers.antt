use Rattle.std.proofs.Common.{◌<◌, ◌∙◌, sym, ap, subst, get_or, arith, length-take-le}
use Rattle.residues.proofs.Fill.{filled_none}
use Rattle.round_products.specs.Sums.{less_both}
use Rattle.residues.proofs.Fronts.{front-was, front-turn, front-done}
use Rattle.round_products.proofs.difference.Goals as goal

pub loop-k-init : goal.loop-k-init
loop-k-init c = λ _. filled_none _ _

pub loop-k-preserved : goal.loop-k-preserved
loop-k-preserved c = λ h.
    let a = c.args in
    let l = c.loop-k in
    let inside : l.k < a.n = omega (arith, l.auto.y-items, length-take-le a.n a.x.now (omega arith)) in
    let was = front-was _ a.n a.x.now (omega arith) l.k inside (l.invariant h) in
    let below = h l.k inside in
    front-turn _ a.n a.x.now (omega arith) l.k inside (l.invariant h)
    (c.minus_both.ensures (subst (λ v. v < a.q) (sym was) below.0, below.1, below.2) ∙ ap (λ v. less_both a.q v (get_or a.a.now l.k 0) (get_or a.b.now l.k 0)) was)

pub returns : goal.returns
returns c = λ h.
    let a = c.args in
    let l = c.loop-k in
    front-done _ a.n a.x.now (omega arith) (l.invariant h) (omega (arith, l.auto.y-items, length-take-le a.n a.x.now (omega arith)))
