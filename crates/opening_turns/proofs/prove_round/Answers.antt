use Rattle.opening_turns.proofs.Turning.{prover_moves}
use Rattle.opening_turns.proofs.prove_round.Goals as goal

pub returns : goal.returns
returns c =
    let a = c.args in
    prover_moves a.settings a.t a.e a.claims.now a.key.now a.message.now a.rounds.now _ _ _ _
    c.write_rest.ensures c.fold_tables.ensures c.write_first.ensures.0 c.write_first.ensures.1
