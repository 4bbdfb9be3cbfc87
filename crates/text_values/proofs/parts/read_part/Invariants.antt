-- Up to line p the lines are the wanted ones and their values are stored, so what is left decides.
use Rattle.std.proofs.Common.{◌≡◌, ◌≤◌, length, drop, take}
use Rattle.text_format.specs.Text.{spots}
use Rattle.text_format.specs.Lines.{read_values}
use Rattle.text_parts.specs.Parts.{as_shape, cell_at}
use Rattle.text_lines.proofs.Values.{prefix}
use Rattle.text_values.proofs.parts.read_part.Given as goal

abbrev pub invariant-loop-p : goal.invariant-loop-p
invariant-loop-p l = record {
  within : l.from ≤ length l.text → l.at ≤ length l.text;
  cell_is : l.cell ≡ cell_at l.shape.places l.p;
  left : read_values (spots (as_shape l.shape)) (drop l.from l.text) ≡ prefix (take l.p l.values) (read_values (drop l.p (spots (as_shape l.shape))) (drop l.at l.text));
}
