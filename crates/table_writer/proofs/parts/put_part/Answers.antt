-- A line is put where the text is not too long before it, so that there is room for it.
use Rattle.std.proofs.Common.{◌++◌, ◌∙◌, ◌<◌, ◌^◌, ap, arith, rules, sym}
use Rattle.std.proofs.lemmas.Result.{err_from_is_err_and}
use borrow.Author.Tests.{leb-true, leb-false}
use Rattle.protocol.proofs.Tests.{unless-zero}
use Rattle.text_format.specs.Text.{text_limit}
use Rattle.text_parts.specs.Parts.{as_shape}
use Rattle.text_parts.proofs.Cells.{cell_first, cell-inside, next-cell}
use Rattle.table_writer.proofs.Required.{refused-by}
use Rattle.table_writer.proofs.PartTexts.{part-none, part-line, part-end, part-over}
use Rattle.table_writer.proofs.parts.put_part.Goals as goal

pub loop-value-init : goal.loop-value-init
loop-value-init c = λ _. (sym (cell_first _), part-none (as_shape c.args.shape) c.args.values.now _)

pub returns-in_err-require : goal.returns-in_err-require
unfolding text_limit
returns-in_err-require c =
    let l = c.loop-value in
    let b = as_shape c.args.shape in
    let p = err_from_is_err_and c.from_residual.result c.from_residual.ensures.1 in
    let (long, fails) = refused-by _ 0 _ c.in_err-require.ensures in
    λ fits. rw (p.1, p.2) (long, part-over b c.args.values.now l.value-index c.args.text.now l.text (l.invariant fits).1 (omega (arith, c.len.ensures, leb-false _ _ fails)))

pub put_line-requires : goal.put_line-requires
put_line-requires c = (search rules, omega (arith, c.len.ensures, leb-true _ _ (unless-zero 0 _ (sym c.in_ok-require.ensures))))

pub loop-value-preserved : goal.loop-value-preserved
loop-value-preserved c =
    let l = c.loop-value in
    let a = c.args in
    let b = as_shape a.shape in
    let p = l.value-index in
    let items : a.shape.items < 2 ^ 32 = search rules in
    λ fits.
    let (within, few) = cell-inside b p (omega arith) l.cell items (l.invariant fits).0 in (
      c.next-cell.ensures ∙ next-cell _ _ within few p (l.invariant fits).0,
      c.put_line.ensures ∙ part-line b a.values.now p l.cell _ a.text.now l.text (omega arith) (l.invariant fits).0 (search rules) (l.invariant fits).1,
    )

pub returns : goal.returns
returns c =
    let l = c.loop-value in
    let b = as_shape c.args.shape in
    λ fits. (l.invariant fits).1 ∙ ap (λ t. c.args.text.now ++ t) (part-end b c.args.values.now l.value-index (omega arith))
