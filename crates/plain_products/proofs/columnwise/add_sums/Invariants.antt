-- The sums stand for the inner product of the first i elements of the halves' sums.
use Rattle.std.proofs.Common.{ℕ, ◌*◌, ◌^◌, ◌<◌, List}
use Rattle.protocol.specs.Opening.{inner}
use Rattle.half_sums.specs.Halves.{message_sums, key_sums, Halves}
use Rattle.product_sums.specs.Sums.{Stands}
use Rattle.plain_products.proofs.columnwise.add_sums.Given as goal

abbrev pub invariant-loop-i : goal.invariant-loop-i
invariant-loop-i l =
    (t : List ℕ) → Halves l.q 4 l.h l.f l.g × (l.q < 2 ^ 32) × Stands l.q 4 (inner 4 0 (message_sums 4 l.h l.f) (key_sums l.q 4 l.h l.g)) 0 l.fn.s t
    → Stands l.q 4 (inner 4 l.i (message_sums 4 l.h l.f) (key_sums l.q 4 l.h l.g)) (l.i * (4 * 2 ^ 16)) l.s t
