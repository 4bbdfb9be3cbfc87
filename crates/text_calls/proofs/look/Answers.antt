-- Refused by the text, by the slice for the settings, or not at all.
use Rattle.std.proofs.Common.{refl, sym, subst, arith}
use Rattle.std.proofs.lemmas.Result.{err_from_is_err_and}
use borrow.Author.Tests.{eqb-true, eqb-false}
use Rattle.protocol.proofs.Tests.{unless-zero}
use Rattle.table_writer.proofs.Required.{positive, refused-by}
use Rattle.text_calls.specs.Promises.{Looked}
use Rattle.text_calls.proofs.Answers.{look-refused, look_unfit, look-made}
use Rattle.text_calls.proofs.look.Goals as goal

pub returns-in_err-looked : goal.returns-in_err-looked
returns-in_err-looked c =
    let a = c.args in
    let p = err_from_is_err_and c.from_residual.result c.from_residual.ensures.1 in
    let e = c.in_err-looked.field-0.0 in
    rw (p.1, p.2) (look-refused a.text.now _ c.in_err-looked.ensures a.settings.now (λ z. absurd (omega (arith, positive e, z))))

pub returns-in_err-require : goal.returns-in_err-require
returns-in_err-require c =
    let a = c.args in
    let p = err_from_is_err_and c.from_residual-in_err-require.result c.from_residual-in_err-require.ensures.1 in
    let (seven, fails) = refused-by _ 6 _ c.in_err-require.ensures in
    rw (p.1, p.2)
    (subst (λ n. Looked a.text.now a.settings.now n a.settings.now) (sym seven) (look_unfit a.text.now _ c.in_ok-looked.ensures a.settings.now refl (eqb-false _ _ fails)))

pub store-requires : goal.store-requires
store-requires c = eqb-true _ _ (unless-zero 6 _ (sym c.in_ok-require.ensures))

pub returns : goal.returns
returns c =
    let a = c.args in
    look-made a.text.now _ c.in_ok-looked.ensures a.settings.now refl (eqb-true _ _ (unless-zero 6 _ (sym c.in_ok-require.ensures))) _ c.store.ensures
