use Rattle.std.proofs.Common.{◌≡◌, ◌+◌, ◌-◌, ◌*◌, ◌%◌, ◌<◌, sym, ap, ◌∙◌, subst, get_or, arith, length-take-le, get_or-take}
use native.Mathlib.Nat.{zero-add}
use Rattle.modular.specs.Factors.{Halvable}
use Rattle.residues.specs.Residues.{BothBelow}
use Rattle.residues.proofs.Splice.{spliced-none, spliced-turn, spliced-end, spliced-before}
use Rattle.round_products.proofs.Less.{minus_is}
use Rattle.opening_rounds.specs.Rounds.{half_of}
use Rattle.opening_rounds.proofs.Claimed.{half-below}
use Rattle.opening_rounds.proofs.write_last.Goals as goal

pub loop-k-init : goal.loop-k-init
loop-k-init c = λ _. spliced-none _ _ _

pub loop-k-preserved : goal.loop-k-preserved
loop-k-preserved c = λ h.
    let a = c.args in
    let l = c.loop-k in
    let inside : l.k < a.n = omega (arith, length-take-le a.n a.claim.now (omega arith)) in
    let was : get_or l.p l.k 0 ≡ get_or a.p.now l.k 0 =
    ap (λ t. get_or t l.k 0) (l.invariant h) ∙ spliced-before _ (2 * a.n) l.k a.p.now (omega arith) l.k (omega arith) in
    let here : get_or a.p.now l.k 0 ≡ get_or a.p.now (0 + l.k) 0 = ap (λ j. get_or a.p.now j 0) (sym (zero-add l.k)) in
    let fine = h.1 l.k inside in
    let read = get_or-take a.n a.claim.now l.k 0 inside in
    let half = c.halved.ensures (subst (Halvable a.q) (sym read) fine) ∙ ap (half_of a.q) read in
    let below : BothBelow a.q c.halved.result (get_or l.p l.k 0) = record { left = omega (arith, half, half-below fine); right = omega (arith, was, here, h.0.each l.k inside) } in
    spliced-turn _ _ l.k _ (l.invariant h) (c.minus.ensures below ∙ minus_is below ∙ λ i. (half i + (a.q - was i)) % a.q) (omega arith)

pub returns : goal.returns
returns c = λ h. let a = c.args in spliced-end _ _ _ (c.loop-k.invariant h) (omega (arith, length-take-le a.n a.claim.now (omega arith)))
