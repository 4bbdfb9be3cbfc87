-- The first p digits of each kind are in place.
use Rattle.std.proofs.Common.{◌≡◌, ℕ, ◌*◌, ◌^◌, get_or, pos}
use Rattle.residues.proofs.Fill.{filled}
use Rattle.judge.specs.Digits.{digit}
use Rattle.judge.proofs.combination.split.Given as goal

abbrev pub invariant-loop-p : goal.invariant-loop-p
invariant-loop-p l =
    (l.low ≡ filled (λ (j : ℕ). pos (digit l.q (2 ^ l.shift) 65536 (get_or l.w j (pos 0)))) l.p l.fn.low)
    × (l.high ≡ filled (λ (j : ℕ). pos (digit l.q (2 ^ l.shift * 65536) 65536 (get_or l.w j (pos 0)))) l.p l.fn.high)
