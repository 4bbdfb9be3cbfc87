use Rattle.std.proofs.Common.{rules}
use Rattle.prover.proofs.Answers.{fold-refused}
use Rattle.prover.proofs.fold.Goals as goal

pub returns-in_err-fold : goal.returns-in_err-fold
returns-in_err-fold c = search (rules, fold-refused)
