-- The loop keeps: y is half^i·x modulo q.
use Rattle.std.proofs.Common.{◌≡◌, ◌+◌, ◌*◌, ◌/◌, ◌%◌, ◌^◌}
use Rattle.modular.specs.Factors.{Halvable}
use Rattle.modular.proofs.halves.halved_times.Given as goal

abbrev pub invariant-loop-i : goal.invariant-loop-i
invariant-loop-i l = Halvable l.q l.x → l.y ≡ ((l.q + 1) / 2) ^ l.i * l.x % l.q
