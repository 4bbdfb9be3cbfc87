use Rattle.std.proofs.Common.{pos, nat_abs, sym, ap, ◌∙◌, to_z-of_z}
use lib.Signed.{lt_z}
use Rattle.rows.proofs.Rows.{start-below, start-above}
use Rattle.rows.proofs.row_of.Goals as goal

pub returns-then-c-lt0 : goal.returns-then-c-lt0
returns-then-c-lt0 c =
    let a = c.args in
    let same = to_z-of_z c.ranges.c in
    (c.unsigned_abs.ensures.value ∙ ap nat_abs same, start-below a.n a.at a.c (sym (ap (λ z. lt_z z (pos 0)) same) ∙ c.if-c-lt0.true))

pub returns-else-c-lt0 : goal.returns-else-c-lt0
returns-else-c-lt0 c =
    let a = c.args in
    let same = to_z-of_z c.ranges.c in
    (c.unsigned_abs.ensures.value ∙ ap nat_abs same, start-above a.n a.at a.c (sym (ap (λ z. lt_z z (pos 0)) same) ∙ c.if-c-lt0.false))
