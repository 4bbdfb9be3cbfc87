use Rattle.std.proofs.Common.{arith}
use Rattle.product_sums.proofs.Rows.{first_known}
use Rattle.plain_products.proofs.inner_rows.Goals as goal

pub returns-then-shape-eq0 : goal.returns-then-shape-eq0
returns-then-shape-eq0 c = λ G z. absurd (omega (arith, (first_known _ _ _ _ _ _ _ _ G z.0).modulus))

pub returns-then-d-gt-WIDTH : goal.returns-then-d-gt-WIDTH
returns-then-d-gt-WIDTH c = λ G z. absurd (omega (arith, (first_known _ _ _ _ _ _ _ _ G z.0).degree_most))

pub returns-then-f-long : goal.returns-then-f-long
returns-then-f-long c = λ G z. absurd (omega (arith, c.size-long.ensures, (first_known _ _ _ _ _ _ _ _ G z.0).message_long))

pub returns-then-g-long : goal.returns-then-g-long
returns-then-g-long c = λ G z. absurd (omega (arith, c.size-long.ensures, z.0.long 0 z.0.some))
