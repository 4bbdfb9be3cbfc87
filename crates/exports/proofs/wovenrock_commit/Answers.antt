use Rattle.std.proofs.Common.{refl, sym, ◌∙◌}
use borrow.Author.Tests.{eqb-true}
use Rattle.protocol.specs.Settings.{has_length}
use Rattle.ranges.proofs.Numbers.{number_some}
use Rattle.slices.proofs.Lent.{lent_fits, lent_allowed}
use Rattle.protocol.specs.Layout.{item_cells}
use Rattle.protocol.specs.Rows.{together}
use Rattle.protocol.specs.Refusal.{refusal_of}
use Rattle.protocol.specs.Calls.{commit_answer}
use Rattle.slices.specs.Slices.{given}
use Rattle.exports.specs.Border.{commit_number, commit_exit}
use Rattle.exports.proofs.Answers.{counted, unfit, refused, made}
use Rattle.prover.proofs.Values.{commit-stored}
use native.Mathlib.Decide.{ℕ_discrete}
use native.Mathlib.Nat as Nat
use Rattle.exports.proofs.wovenrock_commit.Goals as goal

pub returns-in-Err : goal.returns-in-Err
unfolding commit_number commit_exit has_length
returns-in-Err c =
    let a = c.args in
    let S = given a.degree a.depth a.modulus a.bound a.rows in
    let border = counted S c.item_cells.ensures.0 a.commitment.now c.in-Err.ensures in
    let answer = commit_answer S a.key.now a.message.now in
    let (p, q) = unfit S (has_length (item_cells S) a.commitment.now) answer.refusal (together S answer.commitment) a.commitment.now _ border (number_some c.in-Err.refusal) in
    record { refusal = c.number.ensures ∙ p; commitment_exit = q }

-- what the call leaves, whether it is refused or not
pub returns : goal.returns
unfolding commit_number commit_exit has_length commit_answer
returns c =
    let a = c.args in
    let S = given a.degree a.depth a.modulus a.bound a.rows in
    let C = a.commitment.now in
    let border = counted S c.item_cells.ensures.0 C c.in_default.ensures in
    let G = a.key.now in
    let m = a.message.now in
    let answer = commit_answer S G m in
    let to = c.commit_to in
    let passed = sym border in
    let long = eqb-true _ _ (lent_fits S _ passed) in
    elim (ℕ_discrete (refusal_of to.result) 0) [
      | yes none ↦
          let stored = commit-stored S (lent_allowed S _ passed) G m (sym to.ensures.refusal ∙ none) C _ (to.auto.out ∙ long) (to.ensures.written none (Nat.le_of_eq (sym long))) in
          let (p, q) = made S (has_length (item_cells S) C) answer.refusal (together S answer.commitment) C _ border refl _ to.ensures.refusal none _ stored in
          record { refusal = c.number-2.ensures ∙ none ∙ p; commitment_exit = q }
      | no some ↦
          let (p, q) = refused S (has_length (item_cells S) C) answer.refusal (together S answer.commitment) C _ border refl _ to.ensures.refusal some in
          record { refusal = c.number-2.ensures ∙ p; commitment_exit = to.ensures.kept some ∙ q }
    ]
