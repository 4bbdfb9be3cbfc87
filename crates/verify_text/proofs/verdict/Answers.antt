-- The core of the check, which tests nothing again, and then the comparison of the claims.
use Rattle.text_format.specs.Programs.{transcript_in}
use Rattle.text_parts.specs.Lent.{tables_lent}
use Rattle.verify_text.proofs.Checks.{long, claims_given, transcript_given}
use Rattle.verify_text.proofs.Said.{both-hold, one_fails}
use Rattle.verify_text.proofs.verdict.Goals as goal

pub returns-then-accepted-written : goal.returns-then-accepted-written
unfolding transcript_in
returns-then-accepted-written c =
    let S = c.args.settings in
    let t = tables_lent c.args.tables.now in
    let g = c.requires in
    both-hold S t _ _ (c.accepted-accepted.ensures (transcript_given S t g) (long S t g).commitment) (c.written-written.ensures (claims_given S t g) (long S t g).claims)
    c.if-accepted-written.true

pub returns-else-accepted-written : goal.returns-else-accepted-written
unfolding transcript_in
returns-else-accepted-written c =
    let S = c.args.settings in
    let t = tables_lent c.args.tables.now in
    let g = c.requires in
    one_fails S t _ _ (c.accepted-accepted.ensures (transcript_given S t g) (long S t g).commitment) (c.written-written.ensures (claims_given S t g) (long S t g).claims)
    c.if-accepted-written.false
