use Rattle.transcripts.proofs.Answers.{answered}
use Rattle.transcripts.proofs.check.Goals as goal

pub returns-clause-verdict : goal.returns-clause-verdict
returns-clause-verdict c = let a = c.args in answered a.settings a.commitment a.key.now a.rounds.now a.challenges.now a.last _ c.check_lent.ensures
