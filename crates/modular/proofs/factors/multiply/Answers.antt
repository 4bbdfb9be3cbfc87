use Rattle.std.proofs.Common.{◌%◌, ◌∙◌, arith}
use Rattle.protocol.proofs.Modulo.{times_mod}
use Rattle.modular.proofs.Shares.{rest_below, rest_above}
use Rattle.modular.proofs.factors.multiply.Goals as goal

pub returns-then-rest-factor : goal.returns-then-rest-factor
returns-then-rest-factor c = λ q y R.
    let a = c.args in
    rest_below q (y % q) a.x a.factor.share c.upper.result a.factor.modulus a.factor.residue R.allowed.positive R.allowed.most (omega arith) R.share c.upper.ensures R.modulus R.residue c.if-rest-factor.true
    ∙ times_mod q R.allowed.positive a.x y

pub returns : goal.returns
returns c = λ q y R.
    let a = c.args in
    rest_above q (y % q) a.x a.factor.share c.upper.result a.factor.modulus a.factor.residue R.allowed.positive R.allowed.most (omega arith) R.share c.upper.ensures R.modulus R.residue c.if-rest-factor.false
    ∙ times_mod q R.allowed.positive a.x y
