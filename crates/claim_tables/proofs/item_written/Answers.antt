-- The claim, place by place.
use Rattle.std.proofs.Common.{◌∙◌, arith}
use Rattle.protocol.specs.Layout.{claim_items}
use Rattle.protocol.proofs.Reading.{row_inside}
use Rattle.sizes.proofs.Limits.{allowed_degree}
use Rattle.claim_tables.proofs.Claiming.{written-item}
use Rattle.claim_tables.proofs.item_written.Goals as goal

pub returns : goal.returns
returns c = λ g.
    let a = c.args in
    let S = a.settings in
    let claim = c.claim_of-claim in
    let inside = row_inside S.degree (claim_items S) a.i c.requires in
    c.same.ensures (omega (arith, allowed_degree S g.0.allowed), omega (arith, inside, g.1))
    ∙ written-item S a.rounds.now a.challenges.now g.0 a.i c.requires a.claims.now claim.result (claim.ensures (g.0, c.requires))
