use Rattle.std.proofs.Common.{pos, ◌+ℤ◌, sym, ap, ◌∙◌}
use Rattle.protocol.specs.Element.{modulo}
use Rattle.residues.specs.Residues.{signed}
use Rattle.residues.proofs.signed_sum.Goals as goal

pub returns-then-negative : goal.returns-then-negative
unfolding signed
returns-then-negative c = λ h. let a = c.args in c.minus.ensures h ∙ ap (λ b. modulo a.q (pos a.x +ℤ signed b (pos a.y))) (sym c.if-negative.true)

pub returns : goal.returns
unfolding signed modulo
returns c = λ h. let a = c.args in c.plus.ensures h ∙ ap (λ b. modulo a.q (pos a.x +ℤ signed b (pos a.y))) (sym c.if-negative.false)
