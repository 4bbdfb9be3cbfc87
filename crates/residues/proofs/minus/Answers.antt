use Rattle.std.proofs.Common.{◌+◌, ◌-◌, arith}
use Rattle.residues.proofs.Signs.{by, minus-below, minus-above}
use Rattle.residues.proofs.minus.Goals as goal

pub returns-then-rest-lt-SIGN : goal.returns-then-rest-lt-SIGN
returns-then-rest-lt-SIGN c = λ h.
    let a = c.args in
    let l = h.left in
    let r = h.right in
    by (a.x - a.y) (omega arith) (minus-above a.q (omega arith) a.x a.y (omega arith) l)

pub returns : goal.returns
returns c = λ h.
    let a = c.args in
    let l = h.left in
    let r = h.right in
    by (a.x + (a.q - a.y)) (omega arith) (minus-below a.q (omega arith) a.x a.y (omega arith) r)
