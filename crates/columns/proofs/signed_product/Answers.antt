use Rattle.std.proofs.Common.{◌%◌, pos, ◌+ℤ◌, ap, ◌∙◌, mul-le-mul, arith, to_z-of_z}
use Rattle.columns.proofs.Words.{word-product}
use Rattle.columns.proofs.signed_product.Goals as goal

pub overflow_mul-more : goal.overflow_mul-more
overflow_mul-more c = omega (arith, mul-le-mul {n₁ = c.raised.result} {m₁ = c.args.y % 4294967296} {n₂ = 4294967295} {m₂ = 4294967295} (omega (arith, c.raised.ensures.1)) (omega arith))

pub returns : goal.returns
returns c =
    let a = c.args in
    word-product c.raised.result (a.y % 4294967296) a.c
    (omega (arith, mul-le-mul {n₁ = c.raised.result} {m₁ = a.y % 4294967296} {n₂ = 4294967295} {m₂ = 4294967295} (omega (arith, c.raised.ensures.1)) (omega arith))) (omega arith)
    (c.raised.ensures.0 ∙ ap (λ z. z +ℤ pos 2147483648) (to_z-of_z c.ranges.c))
