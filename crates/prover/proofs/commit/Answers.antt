use Rattle.std.proofs.Common.{◌≡◌, refl, sym, ◌∙◌, arith, rules}
use Rattle.protocol.specs.Element.{zeros}
use Rattle.protocol.specs.Layout.{rows_width}
use Rattle.protocol.specs.Calls.{commit_refusal}
use Rattle.prover_refusals.proofs.Given.{commit_key}
use Rattle.prover.specs.Rowwise.{committed}
use Rattle.prover.proofs.Values.{item_by-value, item_room}
use Rattle.prover.proofs.Answers.{commit-refused, commit-done}
use Rattle.prover.proofs.commit.Goals as goal

pub returns-in_err-commit_to : goal.returns-in_err-commit_to
returns-in_err-commit_to c = search (rules, commit-refused)

pub returns : goal.returns
unfolding zeros
returns c =
    let a = c.args in
    let S = a.settings in
    let G = a.key.now in
    let m = a.message.now in
    let to = c.in_ok-commit_to in
    let z : commit_refusal S G m ≡ 0 = sym to.ensures.refusal in
    let ok = (commit_key S G m z).0 in
    let room = item_room S ok in
    commit-done S G m z _ (c.by_value.ensures ok (omega (arith, room, c.commit_to.auto.out)) ∙ item_by-value S (committed S G m) (zeros rows_width) _
    (to.ensures.written refl room))
