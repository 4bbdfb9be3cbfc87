-- Nothing of the opening is refused, and of what it gives the writer refuses nothing but the length of the text.
use Rattle.std.proofs.Common.{◌≡◌, [], length, take, sym, ap, subst, ◌∙◌, arith, length-take-le}
use Rattle.protocol.specs.Opening.{commitment}
use Rattle.protocol.specs.Rows.{key_row, at_rows, round_tables, transcripts_of}
use Rattle.protocol.specs.WrittenClaims.{claim_table}
use Rattle.protocol.specs.Answers.{as_written}
use Rattle.protocol.specs.Basic.{Provided}
use Rattle.protocol.specs.Settings.{settings_refusal}
use Rattle.protocol.specs.Calls.{opening_refusal}
use Rattle.text_format.specs.Text.{text_of}
use Rattle.text_format.specs.Programs.{printed}
use Rattle.protocol.proofs.Inputs.{valid-settings}
use Rattle.claims.proofs.Honest.{opening-granted, opening-commitment, opening_last, opening-rounds}
use Rattle.claim_tables.specs.Claims.{claimed, claims_room, Given}
use Rattle.claim_tables.proofs.Claiming.{claims-few}
use Rattle.text_parts.specs.Parts.{tables_of}
use Rattle.table_writer.specs.Tables.{Writable, Output}
use Rattle.prove_text.proofs.Honest.{given, commitment-flat, claims_same, claims_given, last_front, honest_writable, printed_by}
use Rattle.prove_text.proofs.print_opening.Goals as goal

pub slice_bounds-claims-end : goal.slice_bounds-claims-end
slice_bounds-claims-end c =
    let S = c.args.settings in
    let allowed : settings_refusal S ≡ 0 = valid-settings S c.requires.settings in
    let long : length c.claims_of-claims.result ≡ claims_room = search in
    omega (arith, claims-few S allowed, c.claim_cells-claim_cells.ensures allowed, long)

pub slice_bounds-tables-end-5 : goal.slice_bounds-tables-end-5
slice_bounds-tables-end-5 c =
    let S = c.args.settings in
    let allowed : settings_refusal S ≡ 0 = valid-settings S c.requires.settings in
    let long : length c.claims_of-claims.result ≡ claims_room = search in
    sym (length-take-le _ _ (omega (arith, claims-few S allowed, c.claim_cells-claim_cells.ensures allowed, long)))

pub returns : goal.returns
unfolding printed transcripts_of
returns c =
    let a = c.args in
    let S = a.settings in
    let G = a.key.now in
    let M = a.message.now in
    let E = a.challenges.now in
    let R = a.rounds.now in
    let ok = c.requires in
    let o = c.opened-outcome in
    let granted : opening_refusal S G M E R ≡ 0 = opening-granted (given S G M E R ok) R ok.rounds_long in
    let allowed : settings_refusal S ≡ 0 = valid-settings S ok.settings in
    let value : o.result.commitment ≡ at_rows S (λ r. commitment S (key_row S G r) M) = ap (λ r. r.commitment) (o.ensures granted).answer ∙ opening-commitment (given S G M E R ok) R ok.rounds_long in
    let last_given = last_front S G M E R ok _ (ap (λ r. r.last) (o.ensures granted).answer ∙ opening_last (given S G M E R ok) R ok.rounds_long) in
    let rounds_given : o.new.rounds ≡ round_tables S E G M = (o.ensures granted).rounds_exit ∙ opening-rounds (given S G M E R ok) R ok.rounds_long in
    let commitment_given : take c.item_cells-item_cells.result c.flat-commitment.result ≡ (transcripts_of S G M E).commitment =
    ap (λ n. take n c.flat-commitment.result) (c.item_cells-item_cells.ensures.0 allowed) ∙ c.flat-commitment.ensures allowed ∙ commitment-flat S G M E R ok _ value in
    let own = claims_given S G M E R ok in
    let claims_are : take c.claim_cells-claim_cells.result c.claims_of-claims.result ≡ claim_table S (transcripts_of S G M E) =
    ap (λ n. take n c.claims_of-claims.result) (c.claim_cells-claim_cells.ensures allowed)
    ∙ c.claims_of-claims.ensures (subst (Given S) (sym rounds_given) own)
    ∙ ap (λ r. claim_table S (claimed r E)) rounds_given
    ∙ claims_same S G M E R ok in
    let u = tables_of [] [] (take c.item_cells-item_cells.result c.flat-commitment.result) o.new.rounds E (take S.degree o.result.last) (take c.claim_cells-claim_cells.result c.claims_of-claims.result) in
    let same : u ≡ printed S (transcripts_of S G M E) = λ j. tables_of [] [] (commitment_given j) (rounds_given j) E (last_given.1 j) (claims_are j) in
    printed_by S G M E R ok u same a.out.now (as_written c.write_tables.result) c.write_tables.new.out
    (subst (λ P. Provided (Writable S P u) (Output (text_of S P u) a.out.now (as_written c.write_tables.result) c.write_tables.new.out)) c.prints.ensures c.write_tables.ensures
    (honest_writable S G M E R ok u same))
