use mathlib.Core.Path.{sym}
use native.Mathlib.Nat.{mod-eq_of_lt}
use native.Mathlib.Omega.{arith}
use borrow.Author.Rules.{rules}
use Rattle.judge.proofs.combination.remainder.Statement.{statement}
use Rattle.judge.proofs.combination.remainder.Tie as tie

returns-then-x-q : tie.Need-returns-then-x-q
returns-then-x-q c = sym (mod-eq_of_lt (omega arith))

pub remainder_spec : {M : Type 1} → statement M
remainder_spec = tie.close (tie.spec returns-then-x-q (λ c. search rules) (λ c. search rules))
