use native.Mathlib.Nat.{mul-le-mul}
use native.Mathlib.Omega.{arith}
use Rattle.protocol.specs.Element.{width}
use Rattle.batches.proofs.Batching.{suits-width}
use borrow.Author.Rules.{rules}
use Rattle.batches.proofs.prepare.Statement.{statement}
use Rattle.batches.proofs.prepare.Tie as tie

returns-then-n-gt256 : tie.Need-returns-then-n-gt256
returns-then-n-gt256 c = λ z. absurd (omega (arith, z.0.few))

returns-then-d-gt-WIDTH : tie.Need-returns-then-d-gt-WIDTH
returns-then-d-gt-WIDTH c = λ z. absurd (omega (arith, suits-width _ _ _ _ z.0))

returns-then-f-size : tie.Need-returns-then-f-size
returns-then-f-size c = λ z. absurd (omega (arith, z.1.long, c.size.ensures))

overflow_mul-n : tie.Need-overflow_mul-n
overflow_mul-n c = omega (
  arith,
  mul-le-mul {n₁ = c.args.n} {m₁ = c.args.d} {n₂ = 256} {m₂ = width} (omega arith)
      (omega arith),
)

returns-then-x-n : tie.Need-returns-then-x-n
returns-then-x-n c = λ z. absurd (omega (arith, z.3))

returns : tie.Need-returns
returns c = λ z. c.send_batches.ensures (z.0, z.1, z.2)

pub prepare_spec : {M : Type 1} → statement M
prepare_spec =
    tie.close
    (tie.spec returns-then-n-gt256 returns-then-d-gt-WIDTH (λ c κs. search rules) returns-then-f-size overflow_mul-n returns-then-x-n (λ c κs. search rules) (λ c. search rules) returns)
