use Rattle.std.proofs.Common.{◌≡◌, ◌∙◌, ◌/◌, ◌%◌, ap, ℕ, Bool, true, false, length, refl, rules}
use Rattle.std.proofs.lemmas.Iterator.{cases_from_all}
use borrow.Author.Tests.{tests}
use Rattle.protocol.specs.Basic.{every}
use Rattle.protocol.specs.Layout.{claim_cells}
use Rattle.protocol.specs.WrittenClaims.{claim_written}
use Rattle.protocol.proofs.Chains.{every_asked, from_zero}
use Rattle.claim_tables.specs.Claims.{claimed, Given}
use Rattle.claim_tables.proofs.Claiming.{all_written}
use Rattle.claim_tables.proofs.written.Goals as goal

pub returns : goal.returns
returns c = λ g e.
    let a = c.args in
    let S = a.settings in
    let total = c.items-total.result in
    let known : Given S a.rounds.now × (length a.claims.now ≡ claim_cells S) = (g, e) in
    let f : ℕ → Bool = λ i. claim_written S (claimed a.rounds.now a.challenges.now) a.claims.now (i / S.rows) (i % S.rows) in
    every_asked total f c.all.result (cases_from_all _ _ _ (λ i. f i ≡ true) (λ i. f i ≡ false) c.all.ensures.ran (from_zero total refl) (λ x q k. search (rules, tests)) (λ x q k. search (rules, tests)))
    ∙ ap (λ n. every n f) (c.items-total.ensures.0 g.allowed)
    ∙ all_written S a.rounds.now a.challenges.now g a.claims.now
