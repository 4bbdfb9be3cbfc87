use Rattle.std.proofs.Common.{refl, sym, ap, ◌∙◌, take}
use borrow.Author.Tests.{eqb-true}
use Rattle.protocol.specs.Settings.{has_length}
use Rattle.ranges.proofs.Numbers.{number_some}
use Rattle.slices.proofs.Lent.{lent_fits, lent_degree}
use Rattle.protocol.specs.Answers.{Ended}
use Rattle.protocol.specs.Calls.{end_answer}
use Rattle.slices.specs.Slices.{given}
use Rattle.exports.specs.Border.{end_number, end_exit}
use Rattle.exports.proofs.Answers.{unfit, refused, made}
use Rattle.exports.proofs.wovenrock_end.Goals as goal

pub returns-in-Err : goal.returns-in-Err
unfolding end_number end_exit has_length
returns-in-Err c =
    let a = c.args in
    let S = given a.degree a.depth a.modulus a.bound a.rows in
    let answer = end_answer S a.done a.message.now in
    let (p, q) = unfit S (has_length a.degree a.last.now) answer.refusal (take a.degree answer.last) a.last.now _ c.in-Err.ensures (number_some c.in-Err.refusal) in
    record { refusal = c.number.ensures ∙ p; last_exit = q }

pub returns-in-Err-end : goal.returns-in-Err-end
unfolding end_number end_exit has_length
returns-in-Err-end c =
    let a = c.args in
    let S = given a.degree a.depth a.modulus a.bound a.rows in
    let answer = end_answer S a.done a.message.now in
    let same = ap (λ (r : Ended). r.refusal) c.in-Err-end.ensures in
    let (p, q) =
    refused S (has_length a.degree a.last.now) answer.refusal (take a.degree answer.last) a.last.now _ c.in_default.ensures refl _ same (number_some c.in-Err-end.refusal) in
    record { refusal = c.number-in-Err-end.ensures ∙ p; last_exit = q }

pub returns-in-Ok : goal.returns-in-Ok
unfolding end_number end_exit has_length
returns-in-Ok c =
    let a = c.args in
    let S = given a.degree a.depth a.modulus a.bound a.rows in
    let answer = end_answer S a.done a.message.now in
    let given-answer = c.in-Ok.ensures in
    let border = c.in_default.ensures in
    let passed = sym border in
    let stored = c.store_wholes.ensures (lent_degree S _ passed) (eqb-true _ _ (lent_fits S _ passed)) in
    let (p, q) =
    made S (has_length a.degree a.last.now) answer.refusal (take a.degree answer.last) a.last.now _ border refl
    _ (ap (λ (r : Ended). r.refusal) given-answer) refl _ (stored ∙ ap (λ (r : Ended). take a.degree r.last) given-answer) in
    record { refusal = p; last_exit = q }
