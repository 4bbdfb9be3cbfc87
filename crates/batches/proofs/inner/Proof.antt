use native.Mathlib.Nat.{mul-le-mul}
use native.Mathlib.Omega.{arith}
use Rattle.protocol.specs.Element.{width, zeros}
use Rattle.residues.proofs.Fill.{zeros_at}
use Rattle.batches.proofs.Batching.{suits-width}
use borrow.Author.Rules.{rules}
use Rattle.batches.proofs.inner.Statement.{statement}
use Rattle.batches.proofs.inner.Tie as tie

returns-then-n-gt256 : tie.Need-returns-then-n-gt256
returns-then-n-gt256 c = λ F z. absurd (omega (arith, z.0.few))

returns-then-d-gt-WIDTH : tie.Need-returns-then-d-gt-WIDTH
returns-then-d-gt-WIDTH c = λ F z. absurd (omega (arith, suits-width _ _ _ _ z.0))

overflow_mul-n : tie.Need-overflow_mul-n
overflow_mul-n c = omega (arith, mul-le-mul {n₁ = c.args.n} {m₁ = c.args.d} {n₂ = 256} {m₂ = width} (omega arith) (omega arith))

returns-then-x-n : tie.Need-returns-then-x-n
returns-then-x-n c = λ F z. absurd (omega (arith, z.2))

returns-then-g-size : tie.Need-returns-then-g-size
returns-then-g-size c = λ F z. absurd (omega (arith, z.3.long, c.size.ensures))

returns : tie.Need-returns
unfolding zeros
returns c = λ F z. c.inner_in.ensures F (z.0, z.1, z.3, zeros_at 2048, zeros_at 2048)

pub inner_spec : {M : Type 1} → statement M
inner_spec =
    tie.close
    (tie.spec returns-then-n-gt256 returns-then-d-gt-WIDTH overflow_mul-n returns-then-x-n (λ c κs. search rules) returns-then-g-size (λ c. search rules) (λ c. search rules) (λ c κs. search rules) returns)
