use Rattle.std.proofs.Common.{◌∙◌, sym, rules, arith, true, false, refl}
use Rattle.protocol.specs.Basic.{choose}
use Rattle.protocol.specs.Session.{verdict}
use Rattle.protocol.specs.Layout.{width}
use Rattle.sizes.proofs.Limits.{allowed_rows}
use Rattle.transcripts.proofs.RowParts.{value-accepts}
use Rattle.transcripts.proofs.Answers.{passed, refused, decided}
use Rattle.transcripts.proofs.check_lent.Goals as goal

pub returns-in_err-check : goal.returns-in_err-check
returns-in_err-check c =
    let a = c.args in
    refused a.settings a.commitment.now a.key.now a.rounds.now a.challenges.now a.last.now c.from_residual.result (search rules)

pub every_row_accepted-accepted-requires : goal.every_row_accepted-accepted-requires
every_row_accepted-accepted-requires c =
    let a = c.args in
    let g = passed a.settings a.commitment.now a.key.now a.rounds.now a.challenges.now width refl (sym (c.in_ok-check.ensures)) in
    record {
      allowed = g.allowed;
      wide = omega arith;
      commitment-long = omega (arith, allowed_rows a.settings g.allowed);
      key_long = g.key_below.long;
      rounds_long = g.rounds_below.long;
    }

pub returns-then-accepted : goal.returns-then-accepted
unfolding verdict choose
returns-then-accepted c =
    let a = c.args in
    let none = sym (c.in_ok-check.ensures) in
    decided a.settings a.commitment.now a.key.now a.rounds.now a.challenges.now a.last.now true none
    (sym c.if-accepted.true ∙ c.every_row_accepted-accepted.ensures (passed a.settings a.commitment.now a.key.now a.rounds.now a.challenges.now _ (search rules) none)
    ∙ value-accepts a.settings a.rounds.now a.challenges.now a.last.now a.key.now a.commitment.now)

pub returns-else-accepted : goal.returns-else-accepted
unfolding verdict choose
returns-else-accepted c =
    let a = c.args in
    let none = sym (c.in_ok-check.ensures) in
    decided a.settings a.commitment.now a.key.now a.rounds.now a.challenges.now a.last.now false none
    (sym c.if-accepted.false ∙ c.every_row_accepted-accepted.ensures (passed a.settings a.commitment.now a.key.now a.rounds.now a.challenges.now _ (search rules) none)
    ∙ value-accepts a.settings a.rounds.now a.challenges.now a.last.now a.key.now a.commitment.now)
