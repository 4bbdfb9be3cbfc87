use Rattle.std.proofs.Common.{Ok, Err, refl, sym}
use borrow.Author.Tests.{eqb-true}
use Rattle.protocol.specs.Settings.{has_length}
use Rattle.protocol.proofs.Tests.{and_split}
use Rattle.ranges.proofs.Numbers.{number_some}
use Rattle.slices.proofs.Lent.{lent_fits, lent_allowed, lent_degree}
use Rattle.protocol.specs.Answers.{as_opened}
use Rattle.slices.specs.Slices.{given}
use Rattle.exports.proofs.Answers.{both_counted, open_unfit, open-refused, open_made}
use Rattle.exports.proofs.wovenrock_open.Goals as goal

pub returns-in-Err : goal.returns-in-Err
unfolding has_length
returns-in-Err c =
    let a = c.args in
    let S = given a.degree a.depth a.modulus a.bound a.rows in
    let border = both_counted S c.item_cells.ensures.0 a.commitment.now a.degree a.last.now refl c.in-Err.ensures in
    rw c.number.ensures (open_unfit S a.key.now a.message.now a.challenges.now a.rounds.now a.commitment.now a.last.now _ border (number_some c.in-Err.refusal))

pub returns-in-Err-open : goal.returns-in-Err-open
unfolding has_length
returns-in-Err-open c =
    let a = c.args in
    let S = given a.degree a.depth a.modulus a.bound a.rows in
    let border = both_counted S c.item_cells.ensures.0 a.commitment.now a.degree a.last.now refl c.in_default.ensures in
    rw c.number-in-Err-open.ensures
    (open-refused S a.key.now a.message.now a.challenges.now a.rounds.now a.commitment.now a.last.now _ border refl (as_opened (Err c.in-Err-open.refusal)) _ _ _ c.in-Err-open.ensures (number_some c.in-Err-open.refusal))

pub returns-in-Ok : goal.returns-in-Ok
unfolding has_length
returns-in-Ok c =
    let a = c.args in
    let S = given a.degree a.depth a.modulus a.bound a.rows in
    let border = both_counted S c.item_cells.ensures.0 a.commitment.now a.degree a.last.now refl c.in_default.ensures in
    let passed = sym border in
    let (c_long, f_long) = and_split (lent_fits S _ passed) in
    open_made S a.key.now a.message.now a.challenges.now a.rounds.now a.commitment.now a.last.now _ border refl (as_opened (Ok c.in-Ok.outcome)) _ _ _
    c.in-Ok.ensures refl _ _ _
    (c.store_residues.ensures (lent_allowed S _ passed) (eqb-true _ _ c_long))
    (c.store_wholes.ensures (lent_degree S _ passed) (eqb-true _ _ f_long)) c.verdict_number.ensures
