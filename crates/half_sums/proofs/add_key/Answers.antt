use Rattle.std.proofs.Common.{arith}
use Rattle.half_sums.proofs.Elements.{key-inside, key-sum_is}
use Rattle.half_sums.proofs.add_key.Goals as goal

pub returns-then-g-at : goal.returns-then-g-at
returns-then-g-at c = λ h i z. absurd (omega (arith, (key-inside _ _ _ _ _ _ _ z.0).0))

pub returns-then-g-behind : goal.returns-then-g-behind
returns-then-g-behind c = λ h i z. absurd (omega (arith, (key-inside _ _ _ _ _ _ _ z.0).1))

pub returns : goal.returns
returns c = λ h i z. let a = c.args in key-sum_is a.q a.d h i a.at a.behind a.g.now z.0 _ _ z.1 c.key_sums.ensures
