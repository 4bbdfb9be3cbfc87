use Rattle.std.proofs.Common.{◌≡◌, refl, sym, subst, ◌∙◌, arith, rules}
use mathlib.Core.Bool.{true≢false}
use Rattle.protocol.specs.Transcript.{claim_after}
use Rattle.protocol.specs.Nodes.{Alike}
use Rattle.ranges.proofs.Scan.{every-none, every_goes_on, every_fails, every_ends}
use Rattle.transcripts.proofs.Replaying.{round-read, claim-read, round_is, claim-goes-on}
use Rattle.transcripts.proofs.rounds_hold.Invariants.{row}
use Rattle.transcripts.proofs.rounds_hold.Goals as goal

pub loop-t-init : goal.loop-t-init
unfolding claim_after
loop-t-init c = λ g. (every-none _, λ k l. refl)

pub returns-then-not-polynomial_holds : goal.returns-then-not-polynomial_holds
returns-then-not-polynomial_holds c = λ g.
    let l = c.loop-t in
    let a = c.args in
    let S = a.settings in
    let says = c.polynomial_holds.ensures (round-read S a.rounds.now _ _ g l.auto.claim l.t (omega arith))
    ∙ round_is S a.claim.now a.rounds.now a.challenges.now l.t (omega arith) l.claim (l.invariant g).1 in
    record { every_round = every_fails _ _ l.t (omega arith) (sym says ∙ c.if-not-polynomial_holds.true); claim_is = λ e. absurd (true≢false (sym e)) }

pub loop-t-preserved : goal.loop-t-preserved
loop-t-preserved c = λ g.
    let l = c.loop-t in
    let a = c.args in
    let S = a.settings in
    let n = c.next_claim in
    let held = l.invariant g in
    let says = c.polynomial_holds.ensures (round-read S a.rounds.now _ _ g l.auto.claim l.t (omega arith))
    ∙ round_is S a.claim.now a.rounds.now a.challenges.now l.t (omega arith) l.claim held.1 in (
      every_goes_on _ l.t held.0 (sym says ∙ c.if-not-polynomial_holds.false),
      claim-goes-on S a.claim.now a.rounds.now a.challenges.now l.t (omega arith) (search rules) n.new.claim
          (n.ensures (claim-read S a.rounds.now _ _ g l.auto.claim l.t (omega arith))),
    )

pub returns : goal.returns
returns c = λ g.
    let l = c.loop-t in
    let a = c.args in
    let all : l.t ≡ a.settings.depth = omega arith in
    let held = l.invariant g in
    record {
      every_round = every_ends _ _ l.t held.0 (omega arith);
      claim_is = λ _. subst (λ t. Alike a.settings.degree l.claim (claim_after a.settings (row a.settings a.claim.now a.rounds.now a.challenges.now) t)) all held.1;
    }
