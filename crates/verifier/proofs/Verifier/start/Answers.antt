use Rattle.std.proofs.Common.{◌∙◌, ap, rules}
use Rattle.protocol.specs.declared.Session.{Session}
use Rattle.protocol.specs.Refusal.{refusal_of}
use Rattle.verifier.proofs.ByValue.{by_value, start_same}
use Rattle.verifier.proofs.Verifier.start.Goals as goal

pub returns : goal.returns
returns c =
    let a = c.args in
    ap (λ (s : Session). record { refusal = refusal_of c.start_on-begun.result.said; next = s }) c.joined.ensures
    ∙ c.start_on-begun.ensures (by_value a.settings _ (search rules)) (search rules)
    ∙ start_same a.settings a.commitment
