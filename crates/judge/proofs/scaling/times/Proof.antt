-- Numbers of 32 bits have a product of 64.
use mathlib.Core.Path.{ap, ◌∙◌}
use Prim.Native.Nat.{◌%◌}
use native.Mathlib.Nat.{mul_comm, mul-le-mul}
use native.Mathlib.Omega.{arith}
use borrow.Author.Rules.{rules}
use Rattle.judge.proofs.scaling.times.Statement.{statement}
use Rattle.judge.proofs.scaling.times.Tie as tie

overflow_mul-result : tie.Need-overflow_mul-result
overflow_mul-result c = let a = c.args in record {
  fits = omega (arith, mul-le-mul {n₁ = a.y} {m₁ = a.x} {n₂ = 4294967296} {m₂ = 4294967295} (omega (arith, c.requires.0.small)) (omega (arith, c.requires.1)));
}

returns : tie.Need-returns
returns c =
    let a = c.args in
    c.multiply.ensures a.q a.y (c.requires.0.wide (omega arith)) ∙ ap (λ n. n % a.q) (mul_comm a.x a.y)

pub times_spec : {M : Type 1} → statement M
times_spec = tie.close (tie.spec overflow_mul-result (λ c. search rules) (λ c. search rules) (λ c κs. search rules) returns)
