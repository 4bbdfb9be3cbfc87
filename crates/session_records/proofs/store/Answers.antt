use Rattle.std.proofs.Common.{◌≡◌, ◌∙◌, refl, ap, rules, length, arith}
use Rattle.verifier_refusals.specs.Lent.{record_of}
use Rattle.session_records.specs.Records.{claims_of, head_of}
use Rattle.session_records.proofs.Stored.{parts-put}
use Rattle.session_records.proofs.store.Goals as goal

pub returns : goal.returns
unfolding head_of
returns c =
    let a = c.args in
    let wide : length c.widened-challenges.result ≡ 8 = search rules in
    parts-put (record_of a.r (claims_of a.t.now)) _ _ a.t.now (c.copy_from_slice.ensures.after ∙ c.head-first.ensures) (c.copy_from_slice-2.ensures.after ∙ c.widened-challenges.ensures)
    (ap length c.copy_from_slice-2.ensures.after ∙ wide) refl (omega arith)
