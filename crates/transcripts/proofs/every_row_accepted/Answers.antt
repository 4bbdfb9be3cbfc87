use Rattle.std.proofs.Common.{◌≡◌, ℕ, Bool, true, false, length, refl, rules}
use Rattle.std.proofs.lemmas.Iterator.{cases_from_all}
use borrow.Author.Tests.{tests}
use Rattle.protocol.specs.Rows.{key_row}
use Rattle.protocol.specs.Transcript.{accepted}
use Rattle.protocol.proofs.Chains.{every_asked, from_zero}
use Rattle.transcripts.specs.Given.{row_at, TranscriptGiven}
use Rattle.transcripts.proofs.every_row_accepted.Goals as goal

pub returns : goal.returns
returns c = λ g.
    let a = c.args in
    let S = a.settings in
    let known : TranscriptGiven S (length a.last.now) a.key.now a.rounds.now a.challenges.now = g in
    let f : ℕ → Bool = λ i. accepted S (key_row S a.key.now i) (row_at S a.step a.commitment.now a.rounds.now a.challenges.now a.last.now i) in
    every_asked S.rows f c.all.result (cases_from_all _ _ _ (λ i. f i ≡ true) (λ i. f i ≡ false) c.all.ensures.ran (from_zero S.rows refl) (λ x q k. search (rules, tests)) (λ x q k. search (rules, tests)))
