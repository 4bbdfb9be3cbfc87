-- Where a test ends it, the places that are asked for are not apart; behind all tests they are.
use Rattle.std.proofs.Common.{arith}
use Rattle.folds.proofs.Reach.{one_row, reached}
use Rattle.folds.proofs.add_part.Goals as goal

pub returns-then-t-reach : goal.returns-then-t-reach
returns-then-t-reach g c = λ p. let a = c.args in absurd (omega (arith, (reached a.d a.h a.m a.from a.to _ (omega arith) (omega arith) p.4).0))

pub returns-then-t-reach-2 : goal.returns-then-t-reach-2
returns-then-t-reach-2 g c = λ p.
    let a = c.args in
    absurd (omega (arith, one_row a.d a.h a.m a.from a.to 0 (omega arith) (omega arith), (reached a.d a.h a.m a.from a.to _ (omega arith) (omega arith) p.4).0))

pub returns-then-from-reach : goal.returns-then-from-reach
returns-then-from-reach g c = λ p. let a = c.args in absurd (omega (arith, (reached a.d a.h a.m a.from a.to _ (omega arith) (omega arith) p.4).1))

pub returns-then-from-reach-2 : goal.returns-then-from-reach-2
returns-then-from-reach-2 g c = λ p.
    let a = c.args in
    absurd (omega (arith, one_row a.d a.h a.m a.from a.to 0 (omega arith) (omega arith), (reached a.d a.h a.m a.from a.to _ (omega arith) (omega arith) p.4).1))
