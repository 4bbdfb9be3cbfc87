use Rattle.std.proofs.Common.{◌+◌, ◌-◌, arith}
use Rattle.residues.proofs.Signs.{by, minus-below, minus-above}
use Rattle.residues.proofs.minus_any.Goals as goal

pub returns-then-x-y : goal.returns-then-x-y
returns-then-x-y c = λ h. let a = c.args in by (a.x + (a.q - a.y)) (omega arith) (minus-below a.q (omega arith) a.x a.y (omega arith) h.right)

pub returns : goal.returns
returns c = λ h. let a = c.args in minus-above a.q (omega arith) a.x a.y (omega arith) h.left
