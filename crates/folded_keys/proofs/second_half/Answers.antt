use Rattle.std.proofs.Common.{◌+◌, ◌%◌, get_or, ap, ◌∙◌, arith}
use Rattle.residues.proofs.Splice.{spliced-none, spliced-turn, spliced-end, spliced-before}
use Rattle.folded_keys.proofs.second_half.Goals as goal

pub loop-j-init : goal.loop-j-init
loop-j-init c = λ h. spliced-none _ _ _

pub loop-j-preserved : goal.loop-j-preserved
loop-j-preserved c = λ h.
    let l = c.loop-j in
    let a = c.args in
    let was = ap (λ s. get_or s l.j 0) (l.invariant h) ∙ spliced-before _ a.m l.j a.x.now (omega arith) l.j (omega arith) in
    spliced-turn _ _ l.j _ (l.invariant h)
    (c.around.ensures (record { left = omega (arith, was, h.each l.j (omega arith)); right = h.more }) ∙ ap (λ y. (y + a.e) % a.c) was)
    (omega arith)

pub returns : goal.returns
returns c = λ h. spliced-end _ _ _ (c.loop-j.invariant h) (omega arith)
