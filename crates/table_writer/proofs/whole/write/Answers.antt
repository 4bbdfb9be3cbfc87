-- Refused before the text, or the core.
use Rattle.std.proofs.Common.{sym, arith}
use Rattle.std.proofs.lemmas.Result.{err_from_is_err_and}
use Rattle.table_writer.proofs.Required.{positive}
use Rattle.table_writer.proofs.Answers.{stopped, passed, wrote}
use Rattle.table_writer.proofs.whole.write.Goals as goal

pub returns-in_err-tables_refusal : goal.returns-in_err-tables_refusal
returns-in_err-tables_refusal c =
    let p = err_from_is_err_and c.from_residual.result c.from_residual.ensures.1 in
    let e = c.in_err-tables_refusal.field-0.0 in
    rw (p.1, p.2) (stopped _ _ _ _ _ c.in_err-tables_refusal.ensures (λ z. absurd (omega (arith, positive e, z))))

pub returns : goal.returns
returns c =
    let fine = sym c.in_ok-tables_refusal.ensures in
    wrote _ _ _ _ fine _ _ (c.write_tables.ensures (passed _ _ _ c.args.out.now fine))
