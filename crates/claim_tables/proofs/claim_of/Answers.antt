-- The part of the rounds that begins with the row, and in it the round of the item.
use Rattle.std.proofs.Common.{rules}
use Rattle.claim_tables.proofs.Claiming.{row_inside, claim-read, claim_is}
use Rattle.claim_tables.proofs.claim_of.Goals as goal

pub returns : goal.returns
returns c = λ g.
    let a = c.args in
    let begins = c.row_start-start.ensures.0 g.0.allowed (row_inside a.settings g.0.allowed a.i g.1) in
    claim_is a.settings a.rounds.now a.challenges.now g.0 a.i g.1 _ begins (search rules) c.next_claim.new.claim
    (c.next_claim.ensures (claim-read a.settings a.rounds.now a.challenges.now g.0 a.i g.1 _ begins _ (search rules)))
