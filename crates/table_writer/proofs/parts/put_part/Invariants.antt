-- The lines so far stand behind the text, and the cell is that of the next.
use Rattle.std.proofs.Common.{◌≡◌, ◌++◌, length}
use Rattle.text_format.specs.Text.{shape_size}
use Rattle.text_parts.specs.Parts.{as_shape, cell_at}
use Rattle.table_writer.proofs.PartTexts.{first}
use Rattle.table_writer.proofs.parts.put_part.Given as goal

abbrev pub invariant-loop-value : goal.invariant-loop-value
invariant-loop-value l =
    length l.values ≡ shape_size (as_shape l.shape)
    → (l.cell ≡ cell_at l.shape.places l.value-index) × (l.text ≡ l.initial.text ++ first (as_shape l.shape) l.values l.value-index)
