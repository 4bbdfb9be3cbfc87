-- What is read stands behind all that is written.
use Rattle.std.proofs.Common.{◌+◌, get_or, refl, ap, ◌∙◌, arith, length-set}
use Rattle.residues.specs.Lists.{spliced}
use Rattle.residues.proofs.Splice.{spliced-none, spliced_same, spliced-turn, spliced-end, spliced-behind}
use Rattle.folds.proofs.move_down.Goals as goal

pub returns-then-to-from : goal.returns-then-to-from
returns-then-to-from c = let a = c.args in spliced_same a.to a.n a.t.now (omega arith) ∙ ap (λ x. spliced (λ k. get_or a.t.now (x + k) 0) a.to a.n a.t.now) c.if-to-from.true

pub loop-k-init : goal.loop-k-init
loop-k-init c = (spliced-none _ _ _, refl)

pub loop-k-preserved : goal.loop-k-preserved
loop-k-preserved c =
    let a = c.args in
    let l = c.loop-k in
    let was = ap (λ s. get_or s (a.from + l.k) 0) l.invariant.0 ∙ spliced-behind _ a.to l.k a.t.now (omega arith) (a.from + l.k) (omega arith) in
    (spliced-turn _ _ l.k _ l.invariant.0 was (omega arith), simp length-set (omega arith))

pub returns : goal.returns
returns c = spliced-end _ _ _ c.loop-k.invariant.0 (omega arith)
