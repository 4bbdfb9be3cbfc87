use mathlib.Core.Path.{sym}
use native.Mathlib.Nat.{mul-le-mul}
use native.Mathlib.Omega.{arith}
use Rattle.batches.proofs.Batching.{sums-size, table-size}
use Rattle.batches.proofs.size.Statement.{statement}
use Rattle.batches.proofs.size.Tie as tie

overflow_mul-cells : tie.Need-overflow_mul-cells
overflow_mul-cells c = omega (arith, mul-le-mul c.requires.0 c.requires.1)

overflow_mul-result : tie.Need-overflow_mul-result
overflow_mul-result c = omega (arith, mul-le-mul c.requires.0 c.requires.1)

returns-then-sums : tie.Need-returns-then-sums
returns-then-sums c = let a = c.args in sym (sums-size a.sums c.if-sums.true a.d a.n)

returns : tie.Need-returns
returns c = let a = c.args in sym (table-size a.sums c.if-sums.false a.d a.n)

pub size_spec : {M : Type 1} → statement M
size_spec = tie.close (tie.spec overflow_mul-cells overflow_mul-result returns-then-sums returns)
