use Rattle.std.proofs.Common.{arith, rules}
use Rattle.transform.proofs.Sums.{batch_added}
use Rattle.transform.proofs.add_batch.Statement.{statement}
use Rattle.transform.proofs.add_batch.Tie as tie

returns-then-x-sums : tie.Need-returns-then-x-sums
returns-then-x-sums c = λ F G H count p. absurd (omega (arith, p.x_values.room.long, p.stands.long))

returns-then-y-sums : tie.Need-returns-then-y-sums
returns-then-y-sums c = λ F G H count p. absurd (omega (arith, p.y_filled.room.long, p.stands.long))

returns : tie.Need-returns
returns c = λ F G H count p.
    let a = c.args in
    let y = c.send.ensures G (p.most, p.y_filled) in
    batch_added a.level F G H count a.x.now a.y.now a.sums.now p _ _ y (c.add_products.ensures (p.x_values.room.below, y.room.below))

pub add_batch_spec : {M : Type 1} → statement M
add_batch_spec =
    tie.close
    (tie.spec returns-then-x-sums returns-then-y-sums (λ c κs. search rules) (λ c κs. search rules) (λ c. search rules) (λ c. search rules) returns)
