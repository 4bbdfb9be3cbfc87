use Rattle.std.proofs.Common.{◌<◌, ◌+◌, ◌*◌, ◌%◌, ◌∙◌, sym, ap, subst, get_or, arith, length-take-le}
use Rattle.residues.proofs.Fill.{filled_none}
use Rattle.residues.proofs.Fronts.{front-was, front-turn, front-done}
use Rattle.judge.proofs.scaling.add_scaled.Goals as goal

pub loop-k-init : goal.loop-k-init
loop-k-init c = filled_none _ _

pub joined-requires : goal.joined-requires
joined-requires c =
    let a = c.args in
    let l = c.loop-k in
    let inside : l.k < a.d = omega (arith, l.auto.x-items, length-take-le a.d a.a.now (omega arith)) in
    (c.prepared-factor.ensures, subst (λ v. v < a.q) (sym (front-was _ a.d a.a.now (omega arith) l.k inside l.invariant)) (c.requires.5 l.k inside), c.requires.4 l.k inside)

pub loop-k-preserved : goal.loop-k-preserved
loop-k-preserved c =
    let a = c.args in
    let l = c.loop-k in
    let inside : l.k < a.d = omega (arith, l.auto.x-items, length-take-le a.d a.a.now (omega arith)) in
    let was = front-was _ a.d a.a.now (omega arith) l.k inside l.invariant in
    front-turn _ a.d a.a.now (omega arith) l.k inside l.invariant (c.joined.ensures ∙ ap (λ x. (x + a.y * get_or a.b.now l.k 0) % a.q) was)

pub returns : goal.returns
returns c =
    let a = c.args in
    let l = c.loop-k in
    front-done _ a.d a.a.now (omega arith) l.invariant (omega (arith, l.auto.x-items, length-take-le a.d a.a.now (omega arith)))
