use Rattle.transform.specs.Strands.{strands}
use Rattle.transform.proofs.Sums.{values-sent}
use Rattle.std.proofs.Common.{rules}
use Rattle.transform.proofs.send.Statement.{statement}
use Rattle.transform.proofs.send.Tie as tie

returns : tie.Need-returns
returns c = λ F p. values-sent _ F _ _ p.1 (c.forward.ensures strands (p.0, p.1.room.long, p.1.room.below))

pub send_spec : {M : Type 1} → statement M
send_spec =
    tie.close
    (tie.spec (λ c κs. search rules) (λ c. search rules) returns)
