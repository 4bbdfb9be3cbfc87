use Rattle.std.proofs.Common.{mul-le-mul, arith}
use Rattle.transform.proofs.scaled.Goals as goal

pub overflow_mul-result : goal.overflow_mul-result
overflow_mul-result c = omega (arith, mul-le-mul {n₁ = c.from.result} {m₁ = c.args.c} {n₂ = 65535} {m₂ = 12289} (omega arith) (omega arith))
