-- The exponents of the first 2^s elements are in place.
use Rattle.std.proofs.Common.{◌≡◌, ◌^◌, ◌≤◌, get_or}
use Rattle.protocol.specs.Basic.{Provided}
use Rattle.folded_keys.specs.Turns.{Turned}
use Rattle.folded_keys.proofs.turns.Given as goal

abbrev pub invariant-loop-s : goal.invariant-loop-s
invariant-loop-s l = (l.m ≤ 256) × (l.m ≡ 2 ^ l.s) × Provided (get_or l.fn.x 0 0 ≡ 0) (Turned l.c l.depth l.challenges l.s l.x)
