use mathlib.Core.Path.{ap}
use lib.Dec.{eqb}
use borrow.Author.Rules.{rules}
use Rattle.judge.proofs.combination.scaled_is.Statement.{statement}
use Rattle.judge.proofs.combination.scaled_is.Tie as tie

returns : tie.Need-returns
returns c = ap (λ n. eqb n c.args.y) c.times.ensures

pub scaled_is_spec : {M : Type 1} → statement M
scaled_is_spec = tie.close (tie.spec (λ c κs. search rules) returns)
