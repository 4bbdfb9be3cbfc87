-- The rounds that are left fall: a prover's turn counts one more than the verifier's turn after it.
use Rattle.std.proofs.Common.{◌+◌, ◌*◌, ◌-◌}
use Rattle.opening_turns.proofs.+prover_turn_verifier_turn.Given as goal

abbrev pub decreases-prover_turn : goal.decreases-prover_turn
decreases-prover_turn l = 2 * (l.settings.depth - l.state.done) + 1

abbrev pub decreases-verifier_turn : goal.decreases-verifier_turn
decreases-verifier_turn l = 2 * (l.settings.depth - l.state.done)
