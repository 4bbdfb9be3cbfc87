-- Refused by the settings or the number of parts, or the table writer.
use Rattle.std.proofs.Common.{refl, subst, arith}
use Rattle.std.proofs.lemmas.Result.{err_from_is_err_and}
use Rattle.text_parts.specs.Lent.{tables_read}
use Rattle.table_writer.proofs.Required.{positive}
use Rattle.protocol.specs.Answers.{as_written}
use Rattle.text_calls.specs.Promises.{WroteStored}
use Rattle.text_calls.specs.Texts.{parts_named}
use Rattle.text_calls.proofs.Answers.{written-number, write_unfit, write-made}
use Rattle.text_calls.proofs.write.Goals as goal

pub returns-in_err-refusal : goal.returns-in_err-refusal
unfolding parts_named
returns-in_err-refusal c =
    let a = c.args in
    let p = err_from_is_err_and c.from_residual.result c.from_residual.ensures.1 in
    let e = c.in_err-refusal.field-0.0 in
    rw (p.1, p.2)
    (write_unfit a.settings a.parts (tables_read a.tables.now) a.out.now _ c.in_err-refusal.ensures (λ z. absurd (omega (arith, positive e, z))))

pub returns : goal.returns
unfolding parts_named
returns c =
    let a = c.args in
    subst (λ n. WroteStored a.settings a.parts (tables_read a.tables.now) a.out.now n c.write.new.out (as_written c.write.result).count) (written-number c.write.result)
    (write-made a.settings a.parts (tables_read a.tables.now) a.out.now 0 c.in_ok-refusal.ensures refl _ c.parts_of.ensures _ _ c.write.ensures)
