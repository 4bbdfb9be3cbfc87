use Rattle.std.proofs.Common.{◌+◌, ◌-◌, ◌%◌, ◌^◌, get_or, pos, ◌+ℤ◌, ◌*ℤ◌, sym, ap, ◌∙◌, arith, w32, SFits, to_z-of_z, rules}
use Rattle.columns.specs.Columns.{narrow}
use Rattle.protocol.proofs.Rotation.{rotate-plus, rotate-minus}
use Rattle.columns.proofs.Words.{word, word-add, word-sub, times-neg}
use Rattle.columns.proofs.add_term.Goals as goal

pub returns-then-j-k : goal.returns-then-j-k
unfolding narrow
returns-then-j-k c =
    let a = c.args in
    let z = get_or a.f.now a.j (pos 0) in
    let fits : SFits w32 z = search rules in
    let y = get_or a.g.now (a.k - a.j) 0 % 2 ^ 32 in
    word-add a.s c.signed_product-p.result (z *ℤ pos y) (c.signed_product-p.ensures ∙ ap (λ x. word (x *ℤ pos y)) (to_z-of_z {w = w32} fits))
    ∙ ap (λ x. word (pos a.s +ℤ z *ℤ x)) (sym (rotate-plus a.d a.j (narrow a.g.now) a.k (omega arith) (omega arith) (omega arith)))

pub returns : goal.returns
unfolding narrow
returns c =
    let a = c.args in
    let z = get_or a.f.now a.j (pos 0) in
    let fits : SFits w32 z = search rules in
    let y = get_or a.g.now (a.k + a.d - a.j) 0 % 2 ^ 32 in
    word-sub a.s c.signed_product-p-2.result (z *ℤ pos y) (omega arith) (omega arith) (c.signed_product-p-2.ensures ∙ ap (λ x. word (x *ℤ pos y)) (to_z-of_z {w = w32} fits))
    ∙ ap (λ x. word (pos a.s +ℤ x)) (times-neg z y)
    ∙ ap (λ x. word (pos a.s +ℤ z *ℤ x)) (sym (rotate-minus a.d a.j (narrow a.g.now) a.k (omega arith) (omega arith) (omega arith) (omega arith)))
