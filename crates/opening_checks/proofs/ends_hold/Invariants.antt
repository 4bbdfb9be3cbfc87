use Rattle.std.proofs.Common.{◌≤◌, ◌*◌, length}
use Rattle.protocol.specs.Basic.{Provided}
use Rattle.opening_checks.specs.Checks.{EndsRead}
use Rattle.opening_checks.proofs.Rowwise.{EndsSoFar}
use Rattle.opening_checks.proofs.ends_hold.Given as goal

abbrev pub invariant-loop-r : goal.invariant-loop-r
invariant-loop-r l =
    (l.from ≤ length l.key)
    × Provided (EndsRead l.settings (length l.claims) (length l.last) l.key) (EndsSoFar l.settings l.claims l.last l.key l.r l.from (l.r * l.settings.degree) l.met)
