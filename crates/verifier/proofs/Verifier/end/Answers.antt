use Rattle.std.proofs.Common.{◌∙◌, ap, ◌≡◌, length, arith, rules}
use Rattle.protocol.specs.declared.Session.{Session}
use Rattle.protocol.specs.Answers.{as_verdict}
use Rattle.protocol.specs.Refusal.{refusal_of}
use Rattle.protocol.specs.Session.{end}
use Rattle.sizes.proofs.Limits.{allowed_degree}
use Rattle.verifier.proofs.Answers.{end-answered}
use Rattle.verifier.proofs.Verifier.end.Goals as goal

pub returns-clause-answer : goal.returns-clause-answer
returns-clause-answer c =
    let a = c.args in
    let said = c.end_on-moved.result.said in
    (ap (λ (s : Session). record { refusal = refusal_of said; verdict = as_verdict said; next = s }) c.joined.ensures
    ∙ c.end_on-moved.ensures (record { claims-long = search rules; final_long = λ ok. let long : length a.last ≡ 128 = search rules in omega (arith, allowed_degree c.beside.result.settings ok) })
    ∙ ap (λ (s : Session). end s a.last a.key.now) c.beside.ensures)

pub returns-clause-verdict : goal.returns-clause-verdict
returns-clause-verdict c =
    let a = c.args in
    let said = c.end_on-moved.result.said in
    end-answered a.self.0 a.last a.key.now _
    (ap (λ (s : Session). record { refusal = refusal_of said; verdict = as_verdict said; next = s }) c.joined.ensures
    ∙ c.end_on-moved.ensures (record { claims-long = search rules; final_long = λ ok. let long : length a.last ≡ 128 = search rules in omega (arith, allowed_degree c.beside.result.settings ok) })
    ∙ ap (λ (s : Session). end s a.last a.key.now) c.beside.ensures)
