use Rattle.std.proofs.Common.{◌≡◌, ℕ, List, length, replicate, ◌∙◌, div-le_self, arith}
use lib.ListN.{length-replicate}
use Rattle.protocol.specs.Element.{width, padded, zeros}
use Rattle.residues.proofs.Fill.{filled_none, filled-turn, filled-replicate}
use Rattle.residues.proofs.Adding.{front_filled}
use Rattle.transform.proofs.divided.Goals as goal

pub overflow_sub-c : goal.overflow_sub-c
overflow_sub-c c = omega (arith, div-le_self 12288 c.args.d)

pub loop-k-init : goal.loop-k-init
loop-k-init c = filled_none _ _

pub loop-k-preserved : goal.loop-k-preserved
loop-k-preserved c = let l = c.loop-k in filled-turn _ l.k _ l.invariant c.scaled.ensures (omega arith)

pub returns : goal.returns
unfolding padded zeros
returns c =
    let a = c.args in
    let none : List ℕ = replicate width 0 in
    let long : length none ≡ width = length-replicate {A = ℕ} width 0 in
    front_filled _ a.d none (omega (arith, long)) c.loop-k.invariant (omega arith) (omega arith) ∙ filled-replicate 0 _ width a.d
