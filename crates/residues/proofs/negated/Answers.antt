use Rattle.std.proofs.Common.{◌-◌, pos, neg_ℤ, sym, ap, ◌∙◌, arith}
use Rattle.protocol.specs.Element.{modulo}
use Rattle.residues.proofs.Signs.{by, negative-none, negative-residue}
use Rattle.residues.proofs.negated.Goals as goal

pub returns-then-y-eq0 : goal.returns-then-y-eq0
returns-then-y-eq0 c = λ h. let a = c.args in negative-none a.q (omega arith) ∙ ap (λ y. modulo a.q (neg_ℤ (pos y))) (sym c.if-y-eq0.true)

pub returns : goal.returns
returns c = λ h. let a = c.args in by (a.q - a.y) (omega arith) (negative-residue a.q (omega arith) a.y (omega arith) h)
