-- What is refused by the text's length and by the output slice; and the text where nothing is.
use Rattle.std.proofs.Common.{◌++◌, length, drop, sym, ap, ◌∙◌, arith}
use lib.Seq.{length-take-le}
use Rattle.std.proofs.lemmas.Result.{err_from_is_err_and}
use borrow.Author.Tests.{leb-true, leb-false}
use Rattle.protocol.proofs.Tests.{unless-zero}
use Rattle.text_format.specs.Text.{text_limit}
use Rattle.table_writer.proofs.Required.{refused-by}
use Rattle.table_writer.proofs.Answers.{long, cramped, done}
use Rattle.table_writer.proofs.whole.write_values.Goals as goal

pub returns-in_err-put_text : goal.returns-in_err-put_text
returns-in_err-put_text c =
    let p = err_from_is_err_and c.from_residual.result c.from_residual.ensures.1 in
    λ fits. let (one, over) = c.in_err-put_text.ensures fits in rw (p.1, p.2) (long _ _ _ one over)

pub returns-in_err-require : goal.returns-in_err-require
unfolding text_limit
returns-in_err-require c =
    let p = err_from_is_err_and c.from_residual-in_err-require.result c.from_residual-in_err-require.ensures.1 in
    let (one, fails) = refused-by _ 0 _ c.in_err-require.ensures in
    λ fits. rw (p.1, p.2) (long _ _ _ one (omega (arith, ap length (c.in_ok-put_text.ensures fits), c.len-count.ensures, leb-false _ _ fails)))

pub returns-in_err-require-2 : goal.returns-in_err-require-2
unfolding text_limit
returns-in_err-require-2 c =
    let p = err_from_is_err_and c.from_residual-in_err-require-2.result c.from_residual-in_err-require-2.ensures.1 in
    let (seven, fails) = refused-by _ 6 _ c.in_err-require-2.ensures in
    let short = leb-true _ _ (unless-zero 0 _ (sym c.in_ok-require.ensures)) in
    λ fits.
    let text = ap length (c.in_ok-put_text.ensures fits) in
    rw (p.1, p.2)
    (cramped _ _ (omega (arith, text, c.len-count.ensures, short)) _ seven (omega (arith, text, c.len-count.ensures, leb-false _ _ fails)))

pub slice_bounds-copy_from_slice-end : goal.slice_bounds-copy_from_slice-end
slice_bounds-copy_from_slice-end c = leb-true _ _ (unless-zero 6 _ (sym c.in_ok-require-2.ensures))

pub slice_bounds-copy_from_slice-end-2 : goal.slice_bounds-copy_from_slice-end-2
slice_bounds-copy_from_slice-end-2 c = sym (length-take-le _ _ (leb-true _ _ (unless-zero 6 _ (sym c.in_ok-require-2.ensures))))

pub copy_from_slice-requires : goal.copy_from_slice-requires
copy_from_slice-requires c =
    length-take-le _ _ (leb-true _ _ (unless-zero 6 _ (sym c.in_ok-require-2.ensures))) ∙ c.len-count.ensures ∙ ap length (sym c.as_slice.ensures)

pub returns : goal.returns
unfolding text_limit
returns c =
    let out = c.args.out.now in
    let count = c.len-count.ensures in
    let short = leb-true _ _ (unless-zero 0 _ (sym c.in_ok-require.ensures)) in
    let room = leb-true _ _ (unless-zero 6 _ (sym c.in_ok-require-2.ensures)) in
    λ fits.
    let text = c.in_ok-put_text.ensures fits in
    let long = count ∙ ap length text in
    done _ _ (omega (arith, long, short)) _ _ long (omega (arith, long, room))
    (λ j. (c.copy_from_slice.ensures.after ∙ c.as_slice.ensures ∙ text) j ++ drop (long j) out)
