use Rattle.std.proofs.Common.{arith}
use Rattle.opening_turns.proofs.Turning.{verifier_goes}
use Rattle.opening_turns.proofs.+prover_turn_verifier_turn.Goals as goal

pub verifier_turn-returns : goal.verifier_turn-returns
verifier_turn-returns t c =
    let a = c.args in
    verifier_goes a.settings a.challenges.now a.state a.claims.now a.key.now a.message.now a.rounds.now (omega arith) a.e _ _ _ _ _ _ _
    c.check_round-next.ensures c.prover_turn.ensures
