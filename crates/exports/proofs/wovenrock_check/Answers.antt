use Rattle.std.proofs.Common.{◌&&◌, refl, sym, ap, ◌∙◌}
use borrow.Author.Tests.{eqb-true}
use Rattle.protocol.specs.Settings.{has_length}
use Rattle.protocol.proofs.Tests.{and_split}
use Rattle.ranges.proofs.Numbers.{number_some}
use Rattle.slices.proofs.Lent.{lent_passes, lent_fits, lent_allowed, lent_degree}
use Rattle.protocol.specs.Answers.{Checked}
use Rattle.protocol.specs.Element.{padded_signed}
use Rattle.protocol.specs.Layout.{item_cells}
use Rattle.protocol.specs.Calls.{check_refusal, check_answer}
use Rattle.protocol.specs.Session.{verdict_number}
use Rattle.slices.specs.Slices.{given, values_of}
use Rattle.exports.specs.Border.{check_number, check_verdict}
use Rattle.exports.proofs.Answers.{both_counted, unfit, says}
use Rattle.exports.proofs.wovenrock_check.Goals as goal

pub returns-in-Err : goal.returns-in-Err
unfolding check_number check_verdict has_length
returns-in-Err c =
    let a = c.args in
    let S = given a.degree a.depth a.modulus a.bound a.rows in
    let border = both_counted S c.item_cells.ensures.0 a.commitment.now a.degree a.last.now refl c.in-Err.ensures in
    let answer = check_answer S (values_of S a.commitment.now) (padded_signed a.degree a.last.now) a.key.now a.rounds.now a.challenges.now in
    let fits = has_length (item_cells S) a.commitment.now && has_length a.degree a.last.now in
    let (p, q) = unfit S fits answer.refusal (verdict_number answer.verdict) 0 _ border (number_some c.in-Err.refusal) in
    record { refusal = c.number.ensures ∙ p; verdict_exit = q }

pub returns : goal.returns
unfolding check_number check_verdict check_answer has_length
returns c =
    let a = c.args in
    let S = given a.degree a.depth a.modulus a.bound a.rows in
    let fits = has_length (item_cells S) a.commitment.now && has_length a.degree a.last.now in
    let border = both_counted S c.item_cells.ensures.0 a.commitment.now a.degree a.last.now refl c.in_default.ensures in
    let passed = sym border in
    let (c_long, f_long) = and_split (lent_fits S _ passed) in
    let commitment = c.residues-c.ensures (lent_allowed S _ passed) (eqb-true _ _ c_long) in
    let last = c.wholes-f.ensures (lent_degree S _ passed) (eqb-true _ _ f_long) in
    let answer = c.check_lent.ensures ∙ (λ i. check_answer S (commitment i) (last i) a.key.now a.rounds.now a.challenges.now) in
    let N = check_refusal S (values_of S a.commitment.now) a.key.now a.rounds.now a.challenges.now in
    record {
      refusal = c.told.ensures.0 ∙ ap (λ (r : Checked). r.refusal) answer ∙ lent_passes S fits N passed;
      verdict_exit = c.told.ensures.1 ∙ ap (λ (r : Checked). verdict_number r.verdict) answer ∙ says S fits N _ _ border refl;
    }
