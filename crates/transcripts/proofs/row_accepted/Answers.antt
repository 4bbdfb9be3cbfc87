use Rattle.std.proofs.Common.{◌∙◌, sym, arith}
use native.Mathlib.Nat.{le_of_eq}
use Rattle.sizes.proofs.Limits.{allowed_degree}
use Rattle.transcripts.proofs.Replaying.{rejects, ends}
use Rattle.transcripts.proofs.row_accepted.Goals as goal

pub returns-then-not-rounds_hold : goal.returns-then-not-rounds_hold
returns-then-not-rounds_hold c = λ g.
    let a = c.args in
    let short = (allowed_degree a.settings g.allowed).0 in
    let held = c.rounds_hold.ensures (record { allowed = g.allowed; rounds_long = g.rounds_long; rounds_below = g.rounds_below; claim_long = omega arith }) in
    rejects a.settings a.commitment.now _ a.rounds.now a.challenges.now a.last.now (c.element_at-claim.ensures short)
    (sym held.every_round ∙ c.if-not-rounds_hold.true) a.key.now

pub returns : goal.returns
returns c = λ g.
    let a = c.args in
    let short = (allowed_degree a.settings g.allowed).0 in
    let held = c.rounds_hold.ensures (record { allowed = g.allowed; rounds_long = g.rounds_long; rounds_below = g.rounds_below; claim_long = omega arith }) in
    let holds = c.if-not-rounds_hold.false in
    c.end_holds_for_key.ensures (record {
      of_key = record { allowed = g.allowed; key_below = g.key_below; challenges-long = le_of_eq (sym g.challenges-long) };
      claim_long = omega arith;
      final_long = g.final_long;
    })
    ∙ ends a.settings a.commitment.now _ a.rounds.now a.challenges.now a.last.now (c.element_at-claim.ensures short)
    (sym held.every_round ∙ holds) a.key.now _ (held.claim_is holds)
