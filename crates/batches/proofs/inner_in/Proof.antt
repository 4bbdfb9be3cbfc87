use mathlib.Core.Path.{sym, ap}
use Prim.Native.Nat.{◌*◌}
use native.Mathlib.Omega.{arith}
use lib.Seq.{length-take-le}
use Rattle.batches.proofs.Batching.{zero_room, zero-stands}
use borrow.Author.Rules.{rules}
use Rattle.batches.proofs.inner_in.Statement.{statement}
use Rattle.batches.proofs.inner_in.Tie as tie

slice_bounds-sum_batches-end-2 : tie.Need-slice_bounds-sum_batches-end-2
slice_bounds-sum_batches-end-2 c = sym (length-take-le _ _ (omega arith))

slice_bounds-sum_batches-end-4 : tie.Need-slice_bounds-sum_batches-end-4
slice_bounds-sum_batches-end-4 c = sym (length-take-le _ _ (omega arith))

returns : tie.Need-returns
returns c = λ F z.
    let s = c.requires in
    let cells = ap (λ d. d * 16) z.0.degree in
    c.sum_batches.ensures F (z.0, z.1, z.2, zero_room _ _ _ cells s.4 z.3, zero-stands _ _ _ cells s.5 z.4)

pub inner_in_spec : {M : Type 1} → statement M
inner_in_spec =
    tie.close
    (tie.spec (λ c. search rules) (λ c. search rules) slice_bounds-sum_batches-end-2 (λ c. search rules) slice_bounds-sum_batches-end-4 (λ c κs. search rules) (λ c. search rules) (λ c. search rules)
    returns)
