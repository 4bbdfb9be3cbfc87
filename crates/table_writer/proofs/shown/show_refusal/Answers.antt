-- The line is made in a place of its own, of 28 bytes.
use Rattle.std.proofs.Common.{◌++◌, ◌∙◌, ap}
use Rattle.text_format.specs.Text.{bytes}
use Rattle.text_format.specs.Programs.{refused_line}
use Rattle.table_writer.specs.Put.{field}
use Rattle.table_writer.proofs.Shows.{shown_as}
use Rattle.table_writer.proofs.shown.show_refusal.Goals as goal

pub returns : goal.returns
unfolding refused_line field bytes
returns c =
    shown_as
    (c.as_slice.ensures ∙ c.put_field.ensures ∙ (λ j. (c.extend.ensures ∙ ap (λ t. t ++ bytes "refused ") c.new-line.ensures) j ++ field (c.from.ensures j) 10))
    c.show.ensures
