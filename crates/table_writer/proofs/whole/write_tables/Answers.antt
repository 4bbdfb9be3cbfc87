-- The values are gathered and then written; where they find no room their text is too long.
use Rattle.std.proofs.Common.{◌≡◌, List, [], ℤ, ◌++◌, length, sym, ap, subst, ◌∙◌, append-nil, arith}
use Rattle.std.proofs.lemmas.Result.{err_from_is_err_and}
use borrow.Author.Tests.{leb-true, leb-false}
use Rattle.protocol.proofs.Tests.{unless-zero}
use Rattle.protocol.specs.Answers.{as_written}
use Rattle.text_format.specs.Text.{Tables}
use Rattle.text_parts.specs.Parts.{part_of, lengths_are}
use Rattle.text_parts.specs.Flat.{total, joined}
use Rattle.text_parts.specs.Lent.{tables_read}
use Rattle.table_writer.specs.Tables.{gathered, values_text, Output}
use Rattle.table_writer.proofs.Required.{refused-by}
use Rattle.table_writer.proofs.Answers.{long}
use Rattle.table_writer.proofs.WholeText.{lengths_are_lem, gathered_are, gathered-length, text-values, text-over}
use Rattle.table_writer.proofs.whole.write_tables.Goals as goal

pub returns-in_err-require : goal.returns-in_err-require
returns-in_err-require c =
    let a = c.args in
    let t = tables_read a.tables.now in
    let p = err_from_is_err_and c.from_residual.result c.from_residual.ensures.1 in
    let (one, fails) = refused-by _ 0 _ c.in_err-require.ensures in
    let over = leb-false _ _ (sym c.room.ensures ∙ fails) in
    λ w. rw (p.1, p.2) (long _ _ _ one (text-over a.settings a.parts t w (omega (arith, ap total c.lengths-lengths.ensures, over))))

pub all-requires : goal.all-requires
all-requires c =
    let fits = leb-true _ _ (sym c.room.ensures ∙ unless-zero 0 _ (sym c.in_ok-require.ensures)) in
    omega (arith, ap total c.lengths-lengths.ensures, fits, ap length c.new-values.ensures)

-- the values of all tables
gathered-values : (v₀ v v' : List ℤ) (t : Tables) → v₀ ≡ [] → v ≡ v₀ ++ joined (gathered t) → v' ≡ v → v' ≡ joined (gathered t)
gathered-values v₀ v v' t none e is = is ∙ e ∙ ap (λ l. l ++ joined (gathered t)) none

pub write_values-requires : goal.write_values-requires
write_values-requires c =
    let t = tables_read c.args.tables.now in
    let values = gathered-values _ _ _ t c.new-values.ensures c.all.ensures c.as_slice.ensures in
    omega (arith, ap total c.lengths-lengths.ensures, gathered-length t, ap length values)

pub returns : goal.returns
returns c =
    let a = c.args in
    let S = a.settings in
    let P = a.parts in
    let t = tables_read a.tables.now in
    let lengths = c.lengths-lengths.ensures in
    let values = gathered-values _ _ _ t c.new-values.ensures c.all.ensures c.as_slice.ensures in
    let r = c.write_values in
    λ w.
    subst (λ x. Output x a.out.now (as_written r.result) r.new.out)
    (ap (λ n. values_text S P n c.as_slice.result.now) lengths
    ∙ text-values S P t w c.as_slice.result.now [] (values ∙ ap joined (gathered_are S P t w) ∙ sym (append-nil _)))
    (r.ensures (ap (lengths_are (part_of S P)) lengths ∙ lengths_are_lem S P t w))
