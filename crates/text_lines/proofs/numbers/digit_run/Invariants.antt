-- The digits up to a place are read, and what is kept of their number decides the rest.
use Rattle.std.proofs.Common.{◌≡◌, ◌-◌, ◌≤◌, length, drop}
use Rattle.text_format.specs.Text.{digit_run}
use Rattle.text_lines.proofs.Runs.{kept}
use Rattle.text_lines.proofs.numbers.digit_run.Given as goal

abbrev pub invariant-loop-value : goal.invariant-loop-value
invariant-loop-value l = (l.next ≤ length l.text) × (kept (digit_run 0 (drop l.fn.at l.text)) ≡ kept (digit_run l.value (drop l.next l.text)))

abbrev pub decreases-loop-value : goal.decreases-loop-value
decreases-loop-value l = length l.text - l.next
