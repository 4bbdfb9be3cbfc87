use Rattle.std.proofs.Common.{Bool, true, false, ◌≡◌, ℕ, refl, sym, ap, ◌∙◌}
use borrow.Author.Tests.{eqb-true}
use mir.Val.{bool_byte}
use Rattle.protocol.specs.Basic.{choose}
use Rattle.protocol.specs.Settings.{has_length}
use Rattle.ranges.proofs.Numbers.{number_some}
use Rattle.slices.proofs.Lent.{lent_passes, lent_fits, lent_allowed}
use Rattle.protocol.specs.Answers.{Judged}
use Rattle.protocol.specs.Layout.{item_cells}
use Rattle.protocol.specs.Calls.{judge_answer, judge_refusal}
use Rattle.slices.specs.Slices.{given, values_of}
use Rattle.exports.specs.Border.{judge_number, judge_yes}
use Rattle.exports.proofs.Answers.{counted, unfit, agrees}
use Rattle.exports.proofs.wovenrock_judge.Goals as goal

byte : (b : Bool) → bool_byte b ≡ choose b 1 0
unfolding choose
byte true = refl
byte false = refl

pub returns-in-Err : goal.returns-in-Err
unfolding judge_number judge_yes has_length
returns-in-Err c =
    let a = c.args in
    let S = given a.degree a.depth a.modulus a.bound a.rows in
    let border = counted S c.item_cells.ensures.0 a.commitment.now c.in-Err.ensures in
    let answer = judge_answer S (values_of S a.commitment.now) a.slack a.key.now a.w.now in
    let (p, q) = unfit {A = ℕ} S (has_length (item_cells S) a.commitment.now) answer.refusal (choose answer.yes 1 0) 0 _ border (number_some c.in-Err.refusal) in
    record { refusal = c.number.ensures ∙ p; yes_exit = q }

pub returns-in-Ok : goal.returns-in-Ok
unfolding judge_number judge_yes judge_answer has_length
returns-in-Ok c =
    let a = c.args in
    let S = given a.degree a.depth a.modulus a.bound a.rows in
    let fits = has_length (item_cells S) a.commitment.now in
    let border = counted S c.item_cells.ensures.0 a.commitment.now c.in_default.ensures in
    let passed = sym border in
    let commitment = c.residues-c.ensures (lent_allowed S _ passed) (eqb-true _ _ (lent_fits S _ passed)) in
    let answer = c.in-Ok.ensures ∙ ap (λ C. judge_answer S C a.slack a.key.now a.w.now) commitment in
    let N = judge_refusal S (values_of S a.commitment.now) a.slack a.key.now a.w.now in
    record {
      refusal = ap (λ (r : Judged). r.refusal) answer ∙ lent_passes S fits N passed;
      yes_exit = c.from.ensures ∙ byte c.in-Ok.opens ∙ ap (λ (r : Judged). choose {A = ℕ} r.yes 1 0) answer ∙ agrees S fits N _ _ border refl;
    }

pub returns-in-Err-judge : goal.returns-in-Err-judge
unfolding judge_number judge_yes judge_answer has_length
returns-in-Err-judge c =
    let a = c.args in
    let S = given a.degree a.depth a.modulus a.bound a.rows in
    let fits = has_length (item_cells S) a.commitment.now in
    let border = counted S c.item_cells.ensures.0 a.commitment.now c.in_default.ensures in
    let passed = sym border in
    let commitment = c.residues-c.ensures (lent_allowed S _ passed) (eqb-true _ _ (lent_fits S _ passed)) in
    let answer = c.in-Err-judge.ensures ∙ ap (λ C. judge_answer S C a.slack a.key.now a.w.now) commitment in
    let N = judge_refusal S (values_of S a.commitment.now) a.slack a.key.now a.w.now in
    record {
      refusal = c.number-in-Err-judge.ensures ∙ ap (λ (r : Judged). r.refusal) answer ∙ lent_passes S fits N passed;
      yes_exit = byte false ∙ ap (λ (r : Judged). choose {A = ℕ} r.yes 1 0) answer ∙ agrees S fits N _ _ border refl;
    }
