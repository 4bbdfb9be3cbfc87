use Rattle.std.proofs.Common.{◌<◌, length, get_or, take, ◌∙◌, subst, arith, length-take-le, get_or-take}
use Rattle.std.proofs.lemmas.List.{get_or_read}
use Rattle.transform.specs.Steps.{Written}
use Rattle.transform.proofs.Placing.{written_none, written-turn}
use Rattle.transform.proofs.write.Goals as goal

pub loop-k-init : goal.loop-k-init
loop-k-init g c = λ z. let a = c.args in written_none (λ i. g.T.Placed.stands (get_or a.t.now i z)) a.l c.requires.0 a.x.now

pub loop-k-preserved : goal.loop-k-preserved
loop-k-preserved g c = λ z.
    let a = c.args in
    let l = c.loop-k in
    let long = length-take-le a.d a.t.now c.requires.1 in
    let inside : l.k < a.d = omega (arith, long) in
    let there : l.k < length (take a.d a.t.now) = omega (arith, long) in
    let read = get_or_read (take a.d a.t.now) l.k _ there c.y-item.is z ∙ get_or-take a.d a.t.now l.k z inside in
    written-turn (λ i. g.T.Placed.stands (get_or a.t.now i z)) a.l c.requires.0 a.x.now l.k l.x _ (l.invariant z) (omega arith) (subst (λ y. g.T.Placed.stands y c.number.result) read c.number.ensures)

pub returns : goal.returns
returns g c = λ z.
    let a = c.args in
    let l = c.loop-k in
    subst (λ n. Written (λ i. g.T.Placed.stands (get_or a.t.now i z)) a.l n a.x.now l.x) (omega (arith, length-take-le a.d a.t.now c.requires.1)) (l.invariant z)
