use Rattle.std.proofs.Common.{◌<◌, ◌*◌, ◌%◌, ◌^◌, sym, ap, ◌∙◌, subst, arith, length-take-le}
use Rattle.modular.specs.Factors.{Halvable}
use Rattle.residues.proofs.Fill.{filled_none}
use Rattle.round_products.specs.Sums.{half}
use Rattle.residues.proofs.Fronts.{front-was, front-turn, front-done}
use Rattle.round_products.proofs.halve.Goals as goal

pub loop-x-init : goal.loop-x-init
loop-x-init c = λ _. filled_none _ _

pub loop-x-preserved : goal.loop-x-preserved
loop-x-preserved c = λ h.
    let a = c.args in
    let l = c.loop-x in
    let i = l.x-index in
    let inside : i < a.n = omega (arith, l.auto.x-items, length-take-le a.n a.p.now (omega arith)) in
    let was = front-was _ a.n a.p.now (omega arith) i inside (l.invariant h) in
    front-turn _ a.n a.p.now (omega arith) i inside (l.invariant h)
    (c.halved_times.ensures (subst (Halvable a.q) (sym was) (h i inside)) ∙ ap (λ x. half a.q ^ a.t * x % a.q) was)

pub returns : goal.returns
returns c = λ long h.
    let a = c.args in
    let l = c.loop-x in
    front-done _ a.n a.p.now long (l.invariant h) (omega (arith, l.auto.x-items, length-take-le a.n a.p.now long))
