use Rattle.std.proofs.Common.{◌^◌, pos, ◌+ℤ◌, sym, ap, ◌∙◌, arith}
use Rattle.protocol.specs.Element.{modulo}
use Rattle.residues.specs.Residues.{signed}
use Rattle.rotations.proofs.Words.{word_less}
use Rattle.rotations.proofs.WordSumU64.add.Goals as goal

pub returns-then-negative : goal.returns-then-negative
unfolding signed
returns-then-negative c = λ _.
    let a = c.args in
    word_less a.x a.y (omega arith) (omega arith) ∙ ap (λ n. modulo (2 ^ 64) (pos a.x +ℤ signed n (pos a.y))) (sym c.if-negative.true)

pub returns-else-negative : goal.returns-else-negative
unfolding signed modulo
returns-else-negative c = λ _. let a = c.args in ap (λ n. modulo (2 ^ 64) (pos a.x +ℤ signed n (pos a.y))) (sym c.if-negative.false)
