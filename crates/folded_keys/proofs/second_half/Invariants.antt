-- The first j exponents of the second half are in place, the others are as they were.
use Rattle.std.proofs.Common.{◌≡◌, ℕ, ◌+◌, ◌%◌, get_or}
use Rattle.protocol.specs.Basic.{Provided}
use Rattle.residues.specs.Lists.{spliced}
use Rattle.folded_keys.specs.Turns.{OnCircle}
use Rattle.folded_keys.proofs.second_half.Given as goal

abbrev pub invariant-loop-j : goal.invariant-loop-j
invariant-loop-j l = Provided (OnCircle l.c l.m l.e l.fn.x) (l.x ≡ spliced (λ (i : ℕ). (get_or l.fn.x i 0 + l.e) % l.c) l.m l.j l.fn.x)
