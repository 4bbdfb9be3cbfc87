use native.Mathlib.Omega.{arith}
use borrow.Author.Rules.{rules}
use Rattle.judge.proofs.scaling.prepared.Statement.{statement}
use Rattle.judge.proofs.scaling.prepared.Tie as tie

returns-then-q-le-NARROW : tie.Need-returns-then-q-le-NARROW
returns-then-q-le-NARROW c = record { allowed = c.requires.0; small = c.requires.1; wide = λ l. absurd (omega arith) }

returns : tie.Need-returns
returns c = let s = c in record { allowed = s.requires.0; small = s.requires.1; wide = λ l. c.prepare-2.ensures s.requires.0 }

pub prepared_spec : {M : Type 1} → statement M
prepared_spec = tie.close (tie.spec (λ c κs. search rules) returns-then-q-le-NARROW (λ c κs. search rules) returns)
