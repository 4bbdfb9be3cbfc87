-- One quotient, the other, and the sum.
use native.Mathlib.Omega.{arith}
use borrow.Author.Rules.{rules}
use Rattle.extraction.proofs.Weighing as W
use Rattle.extraction.proofs.elements.weigh.Statement.{statement}
use Rattle.extraction.proofs.elements.weigh.Tie as tie

divide-requires : tie.Need-divide-requires
divide-requires c κs = let a = c.args in (c.requires.0, W.first-doubling a.d a.k a.m a.e a.a.now c.requires.1)

divide-requires-2 : tie.Need-divide-requires-2
divide-requires-2 c κs =
    let a = c.args in let one = c.divide in
    (omega (arith, c.requires.0, one.auto.x), W.second_doubling a.d a.k a.m a.e a.a.now c.requires.1 _ one.ensures)

add_own-requires : tie.Need-add_own-requires
add_own-requires c κs =
    let a = c.args in (
      W.some a.d a.k a.m a.e a.a.now c.requires.1,
      W.small a.d a.k a.m a.e a.a.now c.requires.1,
      c.requires.1.factors.exponent,
      omega (arith, c.requires.0, c.divide.auto.x, c.divide-2.auto.x),
      W.both_summable a.d a.k a.m a.e a.a.now c.requires.1 _ c.divide.ensures _ c.divide-2.ensures,
    )

returns : tie.Need-returns
returns c =
    let a = c.args in
    W.weighted_all a.d a.k a.m a.e a.a.now c.requires.1 _
    c.divide.ensures _
    c.divide-2.ensures _ c.add_own.ensures

pub weigh_spec : {M : Type 1} → statement M
weigh_spec =
    tie.close
    (tie.spec divide-requires divide-requires-2 add_own-requires (λ c. search rules) (λ c. search rules) returns)
