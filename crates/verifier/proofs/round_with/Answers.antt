use Rattle.std.proofs.Common.{◌∙◌, rules}
use Rattle.protocol.specs.Session.{part}
use Rattle.verifier_refusals.specs.Lent.{record_of}
use Rattle.verifier.proofs.ByValue.{by_value, turn_same}
use Rattle.verifier.proofs.round_with.Goals as goal

pub returns : goal.returns
unfolding part
returns c =
    let a = c.args in
    c.round_on.ensures (record {
      claims-long = search rules;
      first = by_value a.progress.settings _ (search rules);
      second = by_value a.progress.settings _ (search rules);
      third = by_value a.progress.settings _ (search rules);
    })
    ∙ turn_same (record_of a.progress a.claims.now) a.polynomial.now a.e
