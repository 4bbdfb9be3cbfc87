use Rattle.std.proofs.Common.{◌≤◌, length, ◌∙◌, arith}
use Rattle.protocol.specs.Element.{signed}
use Rattle.folded_keys.proofs.Ending.{front-reduced, end_by_front}
use Rattle.equations.proofs.Ready.{ready}
use Rattle.folded_keys.proofs.end_holds_for_key.Goals as goal

pub returns : goal.returns
returns c = λ g.
    let a = c.args in
    let S = a.settings in
    let r = ready S g.of_key.allowed in
    let g0 = c.folded_key-g.result in
    let alike = c.folded_key-g.ensures g.of_key in
    let long : S.degree ≤ length g0 = omega (arith, r.degree_most, c.folded_key-g.type_inv) in
    c.end_holds.ensures (record { allowed = g.of_key.allowed; first = g.claim_long; second = g.final_long; third = long })
    (front-reduced S a.key.now a.challenges.now g0 g.of_key alike)
    ∙ end_by_front S a.key.now a.challenges.now a.claim.now g0 (signed a.f.now) alike
