use Rattle.std.proofs.Common.{sym, ap, ◌∙◌}
use Rattle.protocol.specs.Basic.{choose}
use Rattle.protocol.specs.Session.{verdict}
use Rattle.protocol.proofs.Refusals.{and_fails_left, and_fails_right}
use Rattle.protocol.proofs.Tests.{and_intro}
use Rattle.opening_checks.proofs.verdict.Goals as goal

pub returns-then-not-holds : goal.returns-then-not-holds
unfolding verdict choose
returns-then-not-holds c = λ given. sym (ap verdict (and_fails_left c.args.holds _ c.if-not-holds.true))

pub returns-then-ends_hold : goal.returns-then-ends_hold
unfolding verdict choose
returns-then-ends_hold c = λ given. sym (ap verdict (and_intro c.if-not-holds.false (sym (c.ends_hold.ensures given) ∙ c.if-ends_hold.true)))

pub returns-else-ends_hold : goal.returns-else-ends_hold
unfolding verdict choose
returns-else-ends_hold c = λ given. sym (ap verdict (and_fails_right c.args.holds _ (sym (c.ends_hold.ensures given) ∙ c.if-ends_hold.false)))
