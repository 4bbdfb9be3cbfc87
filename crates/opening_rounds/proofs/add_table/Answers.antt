use Rattle.std.proofs.Common.{◌≡◌, ◌+◌, ◌%◌, ◌<◌, ap, ◌∙◌, get_or, take, arith, length-take-le, get_or-take}
use native.Mathlib.Nat.{le_refl, zero-add}
use Rattle.residues.proofs.Fill.{filled_none, filled-turn, filled-end, filled-behind}
use Rattle.opening_rounds.proofs.add_table.Goals as goal

pub loop-k-init : goal.loop-k-init
loop-k-init c = λ _. filled_none _ _

pub loop-k-preserved : goal.loop-k-preserved
loop-k-preserved c = λ h.
    let l = c.loop-k in
    let a = c.args in
    let inside : l.k < a.n = omega (arith, length-take-le a.n a.y.now (omega arith)) in
    let z = get_or (take a.n a.y.now) l.k 0 in
    let read : z ≡ get_or a.y.now l.k 0 = get_or-take a.n a.y.now l.k 0 inside in
    let was : get_or l.out l.k 0 ≡ get_or a.out.now l.k 0 = ap (λ s. get_or s l.k 0) (l.invariant h) ∙ filled-behind _ l.k a.out.now 0 l.k (le_refl l.k) in
    let one = ap (λ j. get_or a.out.now j 0) (zero-add l.k) in
    let two = ap (λ j. get_or a.y.now j 0) (zero-add l.k) in
    filled-turn _ l.k _ (l.invariant h)
    (c.plus.ensures (record { left = omega (arith, was, one, h.0.each l.k inside); right = omega (arith, read, two, h.1.each l.k inside) })
    ∙ (λ i. (was i + read i) % a.q)) (omega arith)

pub returns : goal.returns
returns c = λ h. let a = c.args in filled-end _ _ (c.loop-k.invariant h) (omega (arith, length-take-le a.n a.y.now (omega arith)))
