-- By the magnitude.
use Rattle.std.proofs.Common.{◌≡◌, ◌≤◌, to_z, of_z, w32, w64, nat_abs, sym, ap, ◌∙◌, arith}
use mir.Facts.{to_z-of_z}
use Rattle.text_format.specs.Text.{narrow_limit}
use Rattle.table_reader.proofs.Narrow.{narrow-fits, narrowed_is, narrowed-past}
use Rattle.table_reader.proofs.store.I32Held.held.Goals as goal

pub returns-then-unsigned_abs-from : goal.returns-then-unsigned_abs-from
unfolding narrow_limit
returns-then-unsigned_abs-from c =
    let size : nat_abs (to_z w64 (of_z w64 c.args.value)) ≡ nat_abs c.args.value = ap nat_abs (to_z-of_z c.ranges.value) in
    sym (narrowed-past c.args.value (omega (arith, size, c.unsigned_abs.ensures.value)))

pub returns : goal.returns
unfolding narrow_limit
returns c =
    let size : nat_abs (to_z w64 (of_z w64 c.args.value)) ≡ nat_abs c.args.value = ap nat_abs (to_z-of_z c.ranges.value) in
    let small : nat_abs c.args.value ≤ narrow_limit = omega (arith, size, c.unsigned_abs.ensures.value) in
    ap (λ z. to_z w32 (of_z w32 z)) (to_z-of_z c.ranges.value) ∙ to_z-of_z (narrow-fits _ small) ∙ sym (narrowed_is _ small)
