use Rattle.std.proofs.Common.{◌≡◌, ◌∙◌, ap, length, arith}
use Rattle.protocol.specs.Element.{zeros}
use Rattle.protocol.specs.Session.{blank}
use Rattle.residues.proofs.Fill.{zeros-length}
use Rattle.verifier_refusals.specs.Lent.{record_of}
use Rattle.session_records.specs.Records.{record_width, claims_of, record_stored}
use Rattle.session_records.proofs.Stored.{stored-over, claims-zero}
use Rattle.session_records.proofs.store_blank.Goals as goal

pub returns : goal.returns
unfolding zeros
returns c =
    let t = c.args.t.now in
    let zero : c.fill.new.self ≡ zeros record_width = c.fill.ensures.after (λ y e. e) ∙ ap zeros {x = length t} {y = record_width} (omega arith) in
    c.store.ensures
    ∙ (λ i. record_stored (record_of c.blank.result (claims_of (zero i))) (zero i))
    ∙ ap (λ claims. record_stored (record_of c.blank.result claims) (zeros record_width)) claims-zero
    ∙ ap (λ r. record_stored r (zeros record_width)) c.blank.ensures
    ∙ stored-over blank (zeros record_width) t (zeros-length record_width) (omega arith)
