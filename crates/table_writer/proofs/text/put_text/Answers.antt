-- The settings, and then the parts behind them.
use Rattle.std.proofs.Common.{◌+◌, subst, arith}
use Rattle.std.proofs.lemmas.Result.{err_from_is_err_and}
use Rattle.text_parts.specs.Parts.{table_count, part_of}
use Rattle.text_parts.specs.Flat.{piece}
use Rattle.table_writer.specs.Put.{Grows}
use Rattle.table_writer.specs.Tables.{settings_text, parted, values_text, behind_text}
use Rattle.table_writer.proofs.WholeText.{parted_longer}
use Rattle.table_writer.proofs.text.put_text.Goals as goal

pub returns-in_err-put_settings : goal.returns-in_err-put_settings
unfolding values_text parted
returns-in_err-put_settings c =
    let a = c.args in
    let p = err_from_is_err_and c.from_residual.result c.from_residual.ensures.1 in
    let (long, over) = c.in_err-put_settings.ensures in
    let longer = parted_longer (λ i. part_of a.settings a.parts (i + 1)) (λ i. piece a.lengths i a.values.now) 0 table_count (settings_text a.settings) in
    λ fits. rw (p.1, p.2) (long, omega (arith, over, longer))

pub returns : goal.returns
unfolding values_text
returns c =
    let a = c.args in
    λ fits.
    subst (λ t. Grows (behind_text a.settings a.parts a.lengths a.values.now table_count t) c.put_parts.result c.put_parts.new.text) c.in_ok-put_settings.ensures
    (c.put_parts.ensures fits)
