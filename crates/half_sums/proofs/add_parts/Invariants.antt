-- The loop keeps: the first p sums are in place, the others are as they were.
use Rattle.std.proofs.Common.{◌≡◌, ℕ, ◌<◌, false, get_or}
use Rattle.residues.specs.Lists.{filled}
use Rattle.half_sums.proofs.add_parts.Given as goal

abbrev pub invariant-loop-p : goal.invariant-loop-p
invariant-loop-p g l =
    let z = g.T.Entry.NONE in
    ((j : ℕ) → j < l.n → g.S.Sum.allowed l.by (get_or l.first j z) (get_or l.second j z))
    → l.front ≡ filled (λ j. g.S.Sum.sum l.by false (get_or l.first j z) (get_or l.second j z)) l.p l.initial.front
