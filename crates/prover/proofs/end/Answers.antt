use Rattle.std.proofs.Common.{◌≡◌, sym, rules}
use Rattle.protocol.specs.Opening.{final_element}
use Rattle.protocol.specs.Calls.{end_refusal}
use Rattle.sizes.proofs.Limits.{degree_most}
use Rattle.prover_refusals.proofs.Given.{end_given}
use Rattle.prover.proofs.Answers.{end_refused, end_done}
use Rattle.prover.proofs.end.Goals as goal

pub returns-in_err-end : goal.returns-in_err-end
returns-in_err-end c = search (rules, end_refused)

pub returns : goal.returns
unfolding final_element
returns c =
    let a = c.args in
    let z : end_refusal a.settings a.done a.message.now ≡ 0 = sym c.in_ok-end.ensures in
    let (ok, long) = end_given a.settings a.done a.message.now z in
    end_done a.settings a.done a.message.now z _ (c.element_at.ensures (degree_most a.settings ok))
