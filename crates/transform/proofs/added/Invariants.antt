-- The loop keeps: the first numbers are added up.
use Rattle.std.proofs.Common.{◌≡◌, ◌*◌, ◌≤◌}
use Rattle.transform.specs.Steps.{total}
use Rattle.transform.proofs.added.Given as goal

abbrev pub invariant-loop-x : goal.invariant-loop-x
invariant-loop-x l = (l.sum ≤ l.x-index * 4294967295) × (l.sum ≡ total l.s l.at l.x-index)
