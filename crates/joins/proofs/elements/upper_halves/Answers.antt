use Rattle.std.proofs.Common.{◌<◌, get_or, take, ap, ◌∙◌, le_refl, arith, length-take-le, get_or-take}
use Rattle.residues.proofs.Fill.{filled_none, filled-turn, filled-behind}
use Rattle.residues.proofs.Adding.{front_filled}
use Rattle.joins.specs.Sums.{upper_half}
use Rattle.joins.proofs.elements.upper_halves.Goals as goal

pub loop-y-init : goal.loop-y-init
loop-y-init c = filled_none _ _

pub loop-y-preserved : goal.loop-y-preserved
loop-y-preserved c =
    let a = c.args in
    let l = c.loop-y in
    let k = l.y-index in
    let inside : k < a.n = omega (arith, length-take-le a.n a.x.now (omega arith)) in
    filled-turn _ k _ l.invariant
    (c.upper_half.ensures ∙ ap upper_half (ap (λ y. get_or y k 0) l.invariant ∙ filled-behind _ k (take a.n a.x.now) 0 k (le_refl k) ∙ get_or-take a.n a.x.now k 0 inside)) (omega arith)

pub returns : goal.returns
returns c = λ _. let a = c.args in front_filled _ a.n a.x.now (omega arith) c.loop-y.invariant (omega arith) (omega arith)
