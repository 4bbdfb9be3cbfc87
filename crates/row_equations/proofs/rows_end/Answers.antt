use Rattle.std.proofs.Common.{◌≡◌, ℕ, Bool, true, false, length, refl, rules}
use Rattle.std.proofs.lemmas.Iterator.{cases_from_all}
use borrow.Author.Tests.{tests}
use Rattle.protocol.specs.Element.{value_row, signed}
use Rattle.protocol.specs.Rows.{key_row}
use Rattle.protocol.specs.Transcript.{end_met, folded_key}
use Rattle.protocol.proofs.Chains.{every_asked, from_zero}
use Rattle.row_equations.specs.Given.{EndsGiven}
use Rattle.row_equations.proofs.rows_end.Goals as goal

pub returns : goal.returns
returns c = λ g.
    let a = c.args in
    let S = a.settings in
    let known : EndsGiven S (length a.claims.now) (length a.last.now) a.key.now a.challenges.now = g in
    let f : ℕ → Bool = λ i. end_met S (value_row a.claims.now i) (signed a.last.now) (folded_key S (key_row S a.key.now i) a.challenges.now) in
    every_asked S.rows f c.all.result (cases_from_all _ _ _ (λ i. f i ≡ true) (λ i. f i ≡ false) c.all.ensures.ran (from_zero S.rows refl) (λ x q k. search (rules, tests)) (λ x q k. search (rules, tests)))
