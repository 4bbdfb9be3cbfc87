use Rattle.std.proofs.Common.{rules}
use Rattle.protocol.specs.Element.{zeros}
use Rattle.opening.proofs.Answers.{opening-done}
use Rattle.opening.proofs.opened.Goals as goal

pub returns : goal.returns
unfolding zeros
returns c = λ passed.
    opening-done _ _ _ _ _ passed _ _ _ _ c.prover_turn-ended.result _ _ _ _ _
    c.begin.ensures c.by_value-commitment.ensures
    c.prover_turn-ended.ensures
    c.element_at-last.ensures c.verdict-verdict.ensures (search rules)
