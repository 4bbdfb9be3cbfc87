-- The loop keeps: the first k numbers are divided.
use Rattle.std.proofs.Common.{◌≡◌, ◌-◌, ◌*◌, ◌/◌, ◌%◌, get_or}
use Rattle.residues.specs.Lists.{filled}
use Rattle.transform.proofs.divided.Given as goal

abbrev pub invariant-loop-k : goal.invariant-loop-k
invariant-loop-k l = l.front ≡ filled (λ j. get_or l.r j 0 * (12289 - 12288 / l.d) % 12289) l.k l.initial.front
