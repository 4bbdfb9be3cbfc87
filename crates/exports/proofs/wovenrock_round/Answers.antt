use Rattle.std.proofs.Common.{◌*◌, refl, sym, ap, ◌∙◌}
use borrow.Author.Tests.{eqb-true}
use Rattle.protocol.specs.Settings.{has_length}
use Rattle.ranges.proofs.Numbers.{number_some}
use Rattle.slices.proofs.Lent.{lent_fits, lent_allowed}
use Rattle.protocol.specs.Answers.{Polynomial}
use Rattle.protocol.specs.Layout.{polynomial_cells}
use Rattle.protocol.specs.Calls.{round_answer}
use Rattle.slices.specs.Slices.{given, laid}
use Rattle.exports.specs.Border.{round_number, round_exit}
use Rattle.exports.proofs.Answers.{counted, unfit, refused, made}
use Rattle.exports.proofs.wovenrock_round.Goals as goal

pub returns-in-Err : goal.returns-in-Err
unfolding round_number round_exit has_length
returns-in-Err c =
    let a = c.args in
    let S = given a.degree a.depth a.modulus a.bound a.rows in
    let border = counted S (λ z. ap (λ n. 3 * n) (c.item_cells.ensures.0 z)) a.polynomial.now c.in-Err.ensures in
    let answer = round_answer S a.done a.key.now a.message.now in
    let (p, q) = unfit S (has_length (polynomial_cells S) a.polynomial.now) answer.refusal (laid S answer.elements) a.polynomial.now _ border (number_some c.in-Err.refusal) in
    record { refusal = c.number.ensures ∙ p; polynomial_exit = q }

pub returns-in-Err-round : goal.returns-in-Err-round
unfolding round_number round_exit has_length
returns-in-Err-round c =
    let a = c.args in
    let S = given a.degree a.depth a.modulus a.bound a.rows in
    let border = counted S (λ z. ap (λ n. 3 * n) (c.item_cells.ensures.0 z)) a.polynomial.now c.in_default.ensures in
    let answer = round_answer S a.done a.key.now a.message.now in
    let same = ap (λ (r : Polynomial). r.refusal) c.in-Err-round.ensures in
    let (p, q) =
    refused S (has_length (polynomial_cells S) a.polynomial.now) answer.refusal (laid S answer.elements) a.polynomial.now _ border refl _ same (number_some c.in-Err-round.refusal) in
    record { refusal = c.number-in-Err-round.ensures ∙ p; polynomial_exit = q }

pub returns-in-Ok : goal.returns-in-Ok
unfolding round_number round_exit has_length
returns-in-Ok c =
    let a = c.args in
    let S = given a.degree a.depth a.modulus a.bound a.rows in
    let border = counted S (λ z. ap (λ n. 3 * n) (c.item_cells.ensures.0 z)) a.polynomial.now c.in_default.ensures in
    let answer = round_answer S a.done a.key.now a.message.now in
    let given-answer = c.in-Ok.ensures in
    let passed = sym border in
    let stored = c.store_polynomial.ensures (lent_allowed S _ passed) (eqb-true _ _ (lent_fits S _ passed)) in
    let (p, q) =
    made S (has_length (polynomial_cells S) a.polynomial.now) answer.refusal (laid S answer.elements) a.polynomial.now _ border refl
    _ (ap (λ (r : Polynomial). r.refusal) given-answer) refl _ (stored ∙ ap (λ (r : Polynomial). laid S r.elements) given-answer) in
    record { refusal = p; polynomial_exit = q }
