use Rattle.std.proofs.Common.{rules}
use Rattle.sessions.proofs.Answers.{answer_refused, answer_made}
use Rattle.sessions.proofs.answer.Goals as goal

pub returns-in_err-verdict : goal.returns-in_err-verdict
returns-in_err-verdict c = answer_refused c.args.moved c.args.session.now c.from_residual.result (search rules)

pub returns : goal.returns
returns c = answer_made c.args.moved c.args.session.now c.in_ok-verdict.verdict c.in_ok-verdict.was c.store.new.t c.store.ensures
