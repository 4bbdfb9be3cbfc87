use Rattle.std.proofs.Common.{◌∙◌, ap}
use Rattle.protocol.specs.declared.Session.{Session}
use Rattle.protocol.specs.Answers.{as_verdict}
use Rattle.protocol.specs.Refusal.{refusal_of}
use Rattle.protocol.specs.Session.{round}
use Rattle.verifier.proofs.Answers.{round-answered}
use Rattle.verifier.proofs.Verifier.round.Goals as goal

pub returns-clause-verdict : goal.returns-clause-verdict
returns-clause-verdict c =
    let a = c.args in
    let said = c.round_with-moved.result.said in
    round-answered a.self.0 a.polynomial a.e _
    (ap (λ (s : Session). record { refusal = refusal_of said; verdict = as_verdict said; next = s }) c.joined.ensures
    ∙ c.round_with-moved.ensures
    ∙ ap (λ (s : Session). round s a.polynomial a.e) c.beside.ensures)
