-- Of the first numbers the others are taken, the rest is as it was.
use Rattle.std.proofs.Common.{◌≡◌, ℕ, ◌<◌, get_or, take}
use Rattle.residues.specs.Lists.{filled}
use Rattle.round_products.specs.Sums.{less_both}
use Rattle.round_products.proofs.difference.Given as goal

abbrev pub invariant-loop-k : goal.invariant-loop-k
invariant-loop-k l =
    ((j : ℕ) → j < l.n → (get_or l.fn.x j 0 < l.q) × (get_or l.a j 0 < l.q) × (get_or l.b j 0 < l.q))
    → l.y-items ≡ filled (λ (j : ℕ). less_both l.q (get_or l.fn.x j 0) (get_or l.a j 0) (get_or l.b j 0)) l.k (take l.n l.fn.x)
