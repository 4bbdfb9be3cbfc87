use Rattle.std.proofs.Common.{◌≡◌, ◌∙◌, get_or, pos, arith}
use Rattle.residues.specs.Lists.{filled, spliced}
use Rattle.slices.proofs.Elements.{filled_whole}
use Rattle.slices.proofs.store_wholes.Goals as goal

pub returns : goal.returns
unfolding filled spliced
returns c = λ h e.
    let a = c.args in
    let front : c.store.new.out ≡ filled (λ k. get_or a.a k (pos 0)) a.d a.out.now = c.store.ensures (record { there = omega arith; room = omega arith }) in
    front ∙ filled_whole a.d a.a a.out.now (omega arith) e
