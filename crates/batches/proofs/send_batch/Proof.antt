use borrow.Author.Rules.{rules}
use Rattle.batches.proofs.send_batch.Statement.{statement}
use Rattle.batches.proofs.send_batch.Tie as tie

returns : tie.Need-returns
returns c = λ z. c.send.ensures _ (z.2, c.fill_message.ensures _ (z.0, z.1, z.3))

pub send_batch_spec : {M : Type 1} → statement M
send_batch_spec =
    tie.close
    (tie.spec (λ c κs. search rules) (λ c κs. search rules) (λ c. search rules) returns)
