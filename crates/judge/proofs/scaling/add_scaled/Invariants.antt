-- The places below k are filled, the others as they were.
use Rattle.std.proofs.Common.{◌≡◌, ℕ, ◌+◌, ◌*◌, ◌%◌, get_or, take}
use Rattle.residues.proofs.Fill.{filled}
use Rattle.judge.proofs.scaling.add_scaled.Given as goal

abbrev pub invariant-loop-k : goal.invariant-loop-k
invariant-loop-k l = l.x-items ≡ filled (λ (j : ℕ). (get_or l.fn.a j 0 + l.y * get_or l.b j 0) % l.q) l.k (take l.d l.fn.a)
