use Rattle.std.proofs.Common.{◌≡◌, ◌*◌, ◌∙◌, ap, arith}
use Rattle.protocol.specs.Layout.{claim_items}
use Rattle.protocol.proofs.Reading.{row_inside}
use Rattle.residues.specs.Lists.{filled}
use Rattle.sizes.proofs.Limits.{allowed_degree}
use Rattle.claim_tables.proofs.Claiming.{places, table-begun, table_next, table_done}
use Rattle.claim_tables.proofs.store.Goals as goal

pub loop-i-init : goal.loop-i-init
loop-i-init c = λ g e. table-begun _ _ _ _

pub loop-i-preserved : goal.loop-i-preserved
loop-i-preserved c = λ g e.
    let l = c.loop-i in
    let a = c.args in
    let S = a.settings in
    let claim = c.claim_of-claim in
    let whole = c.items-count.ensures.0 g.allowed in
    let inside = row_inside S.degree (claim_items S) l.i (omega (arith, whole)) in
    c.store.ensures (record { there = omega (arith, allowed_degree S g.allowed); room = omega (arith, inside, e, l.auto.claims) })
    ∙ table_next S a.rounds.now a.challenges.now l.i a.claims.now l.claims claim.result (omega (arith, inside, e)) (l.invariant g e) (claim.ensures (g, omega (arith, whole)))

pub returns : goal.returns
returns c = λ g e.
    let l = c.loop-i in
    let a = c.args in
    let last : l.i ≡ claim_items a.settings = omega (arith, c.items-count.ensures.0 g.allowed) in
    table_done a.settings a.rounds.now a.challenges.now a.claims.now l.claims e
    (l.invariant g e ∙ ap (λ n. filled (places a.settings a.rounds.now a.challenges.now) (n * a.settings.degree) a.claims.now) last)
