use Rattle.std.proofs.Common.{refl, sym, ap, ◌∙◌}
use borrow.Author.Tests.{eqb-true}
use Rattle.protocol.specs.Settings.{has_length}
use Rattle.ranges.proofs.Numbers.{number_some}
use Rattle.slices.proofs.Lent.{lent_passes, lent_fits, lent_allowed}
use Rattle.protocol.specs.Layout.{item_cells}
use Rattle.protocol.specs.Calls as Calls
use Rattle.slices.specs.Slices.{given, values_of}
use Rattle.exports.specs.Border.{extract_number, extract_exit}
use Rattle.exports.proofs.Answers.{counted, unfit, through}
use Rattle.exports.proofs.wovenrock_extract.Goals as goal

pub returns-in-Err : goal.returns-in-Err
unfolding extract_number extract_exit has_length
returns-in-Err c =
    let a = c.args in
    let S = given a.degree a.depth a.modulus a.bound a.rows in
    let border = counted S c.item_cells.ensures.0 a.commitment.now c.in-Err.ensures in
    let C = values_of S a.commitment.now in
    let N = Calls.extract_refusal S C a.key.now a.rounds.now a.challenges.now a.leaves.now a.w.now in
    let exit = Calls.extract_exit S C a.key.now a.rounds.now a.challenges.now a.leaves.now a.w.now in
    let (p, q) = unfit S (has_length (item_cells S) a.commitment.now) N exit a.w.now _ border (number_some c.in-Err.refusal) in
    record { refusal = c.number.ensures ∙ p; w_exit = q }

pub returns : goal.returns
unfolding extract_number extract_exit Calls.extract_exit has_length
returns c =
    let a = c.args in
    let S = given a.degree a.depth a.modulus a.bound a.rows in
    let fits = has_length (item_cells S) a.commitment.now in
    let border = counted S c.item_cells.ensures.0 a.commitment.now c.in_default.ensures in
    let passed = sym border in
    let commitment = c.residues-c.ensures (lent_allowed S _ passed) (eqb-true _ _ (lent_fits S _ passed)) in
    let answer = c.extract.ensures in
    let N = Calls.extract_refusal S (values_of S a.commitment.now) a.key.now a.rounds.now a.challenges.now a.leaves.now a.w.now in
    record {
      refusal = c.number-2.ensures ∙ answer.refusal ∙ ap (λ C. Calls.extract_refusal S C a.key.now a.rounds.now a.challenges.now a.leaves.now a.w.now) commitment ∙ lent_passes S fits N passed;
      w_exit = answer.w_exit ∙ ap (λ C. Calls.extract_exit S C a.key.now a.rounds.now a.challenges.now a.leaves.now a.w.now) commitment ∙ through S fits N _ _ _ border refl;
    }
