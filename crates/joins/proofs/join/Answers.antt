use Rattle.std.proofs.Common.{◌+◌, ◌%◌, ◌^◌, refl, ap, ◌∙◌, arith}
use Rattle.joins.specs.Sums.{weight}
use Rattle.joins.proofs.Joining.{lower-joined, joined_is}
use Rattle.joins.proofs.join.Goals as goal

pub returns-then-q-lt4294967296 : goal.returns-then-q-lt4294967296
returns-then-q-lt4294967296 c = λ q z h.
    let a = c.args in
    let R = h.0 in
    ap (λ n. (a.s + a.joint.offset) % 2 ^ 64 % n) R.modulus
    ∙ lower-joined q R.allowed.positive a.joint.offset R.divided R.allowed.most R.least R.most z a.s a.t h.1 (omega (arith, R.modulus)) _ refl

pub returns : goal.returns
returns c = λ q z h.
    let a = c.args in
    let R = h.0 in
    ap (λ n. ((a.s + a.joint.offset) % 2 ^ 64 + c.multiply-upper.result) % 2 ^ 64 % n) R.modulus
    ∙ joined_is q R.allowed.positive a.joint.offset R.divided R.allowed.most R.least R.most z a.s a.t h.1 _ _ refl
    (c.multiply-upper.ensures q weight (R.weighted (omega (arith, R.modulus))))
