use Rattle.std.proofs.Common.{◌≡◌, sym, ◌∙◌, [], ◌∷◌, arith, rules}
use Rattle.protocol.specs.Element.{zeros}
use Rattle.protocol.specs.Layout.{rows_width}
use Rattle.protocol.specs.Calls.{round_refusal}
use Rattle.prover_refusals.proofs.Given.{round_key}
use Rattle.prover.proofs.Values.{item_room, polynomial_by_value}
use Rattle.prover.proofs.Answers.{round_refused, round-done}
use Rattle.prover.proofs.round.Goals as goal

pub returns-in_err-round : goal.returns-in_err-round
returns-in_err-round c = search (rules, round_refused)

pub returns : goal.returns
unfolding zeros
returns c = let a = c.args in
    let S = a.settings in
    let G = a.key.now in
    let m = a.message.now in
    let z : round_refusal S a.done G m ≡ 0 = sym c.in_ok-round.ensures in
    let ok = (round_key S G m a.done z).0 in
    let room = item_room S ok in
    let sent = c.polynomial.ensures z (room, room, room) in
    let first = c.by_value-first.ensures ok (omega (arith, room, c.polynomial.auto.c0)) in
    let middle = c.by_value-middle.ensures ok (omega (arith, room, c.polynomial.auto.c1)) in
    let last = c.by_value-last.ensures ok (omega (arith, room, c.polynomial.auto.c2)) in
    round-done S a.done G m z _
    ((λ i. first i ∷ middle i ∷ last i ∷ []) ∙ polynomial_by_value S a.done G m (zeros rows_width) (zeros rows_width) (zeros rows_width) _ _ _ sent)
