use Rattle.std.proofs.Common.{◌≡◌, ℕ, List, ◌<◌, length, replicate, ◌∙◌, arith, length-take-le}
use lib.ListN.{length-replicate}
use Rattle.protocol.specs.Element.{width, reduced, padded, zeros}
use Rattle.residues.proofs.Fill.{filled_none, filled-turn, filled-replicate}
use Rattle.residues.proofs.Adding.{front_filled}
use Rattle.joins.proofs.elements.join_all.Goals as goal

pub loop-k-init : goal.loop-k-init
loop-k-init c = λ q F R S. filled_none _ _

pub loop-k-preserved : goal.loop-k-preserved
loop-k-preserved c = λ q F R S.
    let a = c.args in
    let l = c.loop-k in
    let none : List ℕ = replicate width 0 in
    let long : length none ≡ width = length-replicate {A = ℕ} width 0 in
    let inside : l.k < a.d = omega (arith, length-take-le a.d none (omega (arith, long))) in
    filled-turn _ l.k _ (l.invariant q F R S) (c.join.ensures q (F l.k) (R, S.each l.k inside)) (omega arith)

pub returns : goal.returns
unfolding reduced padded zeros
returns c = λ q F g.
    let a = c.args in
    let none : List ℕ = replicate width 0 in
    let long : length none ≡ width = length-replicate {A = ℕ} width 0 in
    front_filled _ a.d none (omega (arith, long)) (c.loop-k.invariant q F g.0 g.2) (omega arith) (omega arith) ∙ filled-replicate 0 _ width a.d
