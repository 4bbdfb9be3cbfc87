-- The reader, and then the check.
use Rattle.std.proofs.Common.{Ok, Err, refl, subst, arith}
use Rattle.std.proofs.lemmas.Result.{err_from_is_err_and}
use Rattle.protocol.specs.Answers.{as_loaded, said}
use Rattle.text_format.specs.Promises.{Read}
use Rattle.text_parts.specs.Lent.{tables_lent}
use Rattle.table_writer.proofs.Required.{positive}
use Rattle.verify_text.proofs.Verifies.{verify-refused, verify_given, verify-done}
use Rattle.verify_text.proofs.verify_in.Goals as goal

pub returns-in_err-settings : goal.returns-in_err-settings
returns-in_err-settings c =
    let text = c.args.text.now in
    let t = tables_lent c.args.tables.now in
    let t' = tables_lent c.read_tables.new.tables in
    let p = err_from_is_err_and c.from_residual.result c.from_residual.ensures.1 in
    let e = c.in_err-settings.field-0.0 in
    let got = subst (λ P. Read P text t (as_loaded (Err e)) t') c.reads.ensures (c.in_err-settings.ensures.read c.requires.begins) in
    rw (p.1, p.2) (verify-refused text t t' c.requires.lent (as_loaded (Err e)) got (λ z. absurd (omega (arith, positive e, z))))

pub verdict-requires : goal.verdict-requires
verdict-requires c =
    let text = c.args.text.now in
    let t = tables_lent c.args.tables.now in
    let t' = tables_lent c.read_tables.new.tables in
    let r = as_loaded (Ok c.in_ok-settings.settings) in
    let got = subst (λ P. Read P text t r t') c.reads.ensures (c.in_ok-settings.ensures.read c.requires.begins) in
    let kept = c.in_ok-settings.ensures.lengths in
    verify_given text t t' c.requires.lent r got refl kept

pub returns : goal.returns
returns c =
    let text = c.args.text.now in
    let t = tables_lent c.args.tables.now in
    let t' = tables_lent c.read_tables.new.tables in
    let r = as_loaded (Ok c.in_ok-settings.settings) in
    let got = subst (λ P. Read P text t r t') c.reads.ensures (c.in_ok-settings.ensures.read c.requires.begins) in
    verify-done text t t' c.requires.lent r got refl (said c.verdict.result) c.verdict.ensures
