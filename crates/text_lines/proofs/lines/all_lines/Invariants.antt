-- The lines up to a place are of the stated shape, so what is left decides.
use Rattle.std.proofs.Common.{◌≡◌, ◌-◌, length, drop}
use Rattle.text_format.specs.Lines.{present, all_lines}
use Rattle.text_lines.proofs.lines.all_lines.Given as goal

abbrev pub invariant-loop-at : goal.invariant-loop-at
invariant-loop-at l = present (all_lines (drop l.fn.from l.text)) ≡ present (all_lines (drop l.at l.text))

abbrev pub decreases-loop-at : goal.decreases-loop-at
decreases-loop-at l = length l.text - l.at
