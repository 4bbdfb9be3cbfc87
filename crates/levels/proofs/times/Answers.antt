-- Each goal follows from how often 12289 goes into the product.
use Rattle.std.proofs.Common.{◌*◌, ap₂, arith}
use Rattle.levels.proofs.Shares.{shares}
use Rattle.levels.proofs.times.Goals as goal

pub overflow_sub-result : goal.overflow_sub-result
overflow_sub-result c = let known = shares c.from-factor.result c.from.result c.from-number.result (omega arith) (omega arith) (omega arith) in omega arith

pub overflow_cast-result : goal.overflow_cast-result
overflow_cast-result c = let known = shares c.from-factor.result c.from.result c.from-number.result (omega arith) (omega arith) (omega arith) in omega arith

pub returns : goal.returns
returns c =
    let known = shares c.from-factor.result c.from.result c.from-number.result (omega arith) (omega arith) (omega arith) in
    (omega arith, omega (arith, ap₂ ◌*◌ c.from-number.ensures c.from-factor.ensures))
