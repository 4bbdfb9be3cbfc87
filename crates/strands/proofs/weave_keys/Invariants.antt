-- The loop keeps: the first r strands are in place, and the next row begins at `from`.
use Rattle.std.proofs.Common.{◌≡◌, ℕ, ◌*◌, ◌<◌, ◌≤◌, List, length}
use Rattle.half_sums.specs.Halves.{keys_of}
use Rattle.strands.specs.Strands.{Woven, KeyRows}
use Rattle.strands.proofs.weave_keys.Given as goal

abbrev pub invariant-loop-r : goal.invariant-loop-r
invariant-loop-r l =
    (l.from ≤ length l.g)
    × ((G : ℕ → List ℕ) → KeyRows l.sums l.q l.d l.n l.strands l.stride l.g G → l.d ≤ length l.fn.a → (l.r < l.strands → l.from ≡ l.r * l.stride)
    × Woven l.strands l.r l.d (λ s. keys_of l.sums l.q l.d l.n (G s) l.i) l.k)
