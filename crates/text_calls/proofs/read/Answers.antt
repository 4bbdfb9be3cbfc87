-- Refused by the slice for the settings or the number of parts, by the text, or not at all.
use Rattle.std.proofs.Common.{Ok, Err, refl, arith}
use Rattle.std.proofs.lemmas.Result.{err_from_is_err_and}
use borrow.Author.Tests.{eqb-true}
use Rattle.protocol.specs.Answers.{as_loaded}
use Rattle.protocol.specs.Settings.{has_length}
use Rattle.protocol.proofs.Tests.{and_split}
use Rattle.table_writer.proofs.Required.{positive}
use Rattle.text_parts.specs.Lent.{tables_lent}
use Rattle.text_calls.specs.Texts.{parts_named}
use Rattle.text_calls.proofs.Answers.{read_unfit, read-refused, read_made}
use Rattle.text_calls.proofs.read.Goals as goal

pub returns-then-not-fits-clause-stored : goal.returns-then-not-fits-clause-stored
unfolding has_length parts_named
returns-then-not-fits-clause-stored c =
    let a = c.args in
    read_unfit a.parts a.text.now a.settings.now (tables_lent a.tables.now) _ c.refused.ensures c.if-not-fits.true

pub returns-in_err-found-clause-stored : goal.returns-in_err-found-clause-stored
unfolding has_length parts_named
returns-in_err-found-clause-stored c =
    let a = c.args in
    let p = err_from_is_err_and c.from_residual.result c.from_residual.ensures.1 in
    let e = c.in_err-found.field-0.0 in
    rw (p.1, p.2)
    (read-refused a.parts a.text.now a.settings.now (tables_lent a.tables.now) c.if-not-fits.false _ c.parts_of.ensures (as_loaded (Err e)) _ c.in_err-found.ensures.read
    (λ z. absurd (omega (arith, positive e, z))))

pub store-requires : goal.store-requires
store-requires c = eqb-true _ _ (and_split c.if-not-fits.false).0

pub returns-clause-stored : goal.returns-clause-stored
unfolding has_length parts_named
returns-clause-stored c =
    let a = c.args in
    read_made a.parts a.text.now a.settings.now (tables_lent a.tables.now) c.if-not-fits.false _ c.parts_of.ensures (as_loaded (Ok c.in_ok-found.found)) _ c.in_ok-found.ensures.read refl _
    c.store.ensures
