use Rattle.std.proofs.Common.{pos, get_or, ap, ◌∙◌, arith}
use Rattle.algebra.specs.Integers.{ofℤ}
use Rattle.protocol.specs.Element.{signed}
use Rattle.powers.specs.Powers.{K}
use Rattle.transform.specs.Steps.{Stands16}
use Rattle.transform.proofs.Placing.{strand-filled}
use Rattle.transform.proofs.place_message.Goals as goal

pub returns : goal.returns
unfolding signed
returns c = λ D F p.
    let a = c.args in
    strand-filled (λ k. Stands16 (get_or a.f.now k (pos 0))) D a.d a.l p.degree p.inside F a.x.now _ p.before
    (c.place.ensures (p.inside, p.long, omega (arith, p.degree, p.before.room.long)) (pos 0))
    (λ k v h w. (w.0, w.1 (p.small k h) ∙ ap (ofℤ K) (p.is k h)))
