-- The settings, and then tables of exactly the lengths that the settings ask for.
use Rattle.std.proofs.Common.{true, Ok, Err, ◌≡◌, ◌≤◌, sym, ap, subst, ◌∙◌, arith}
use Rattle.std.proofs.lemmas.Result.{err_from_is_err_and}
use lib.Seq.{length-take-le}
use Rattle.protocol.specs.declared.Settings.{Settings}
use Rattle.protocol.specs.Layout.{key_cells, round_cells}
use Rattle.protocol.specs.Refusal.{number}
use Rattle.text_format.specs.Text.{Tables, fits, lines_of, settings_in}
use Rattle.text_format.specs.Programs.{verify_reads}
use Rattle.text_format.proofs.Answers.{verify_given}
use Rattle.text_parts.specs.Parts.{cells_room, lent_cells}
use Rattle.claim_tables.proofs.Claiming.{claims-few}
use Rattle.table_reader.proofs.Rooms.{rooms}
use Rattle.table_writer.proofs.Required.{positive}
use Rattle.text_lines.specs.Header.{as_begun}
use Rattle.text_lines.proofs.Looked.{begun}
use Rattle.verify_text.proofs.Checks.{Long}
use Rattle.verify_text.proofs.Verifies.{verify-stops, tables_few, lent_fitting}
use Rattle.verify_text.proofs.verify.Goals as goal

pub returns-in_err-settings-clause-answer : goal.returns-in_err-settings-clause-answer
returns-in_err-settings-clause-answer c =
    let text = c.args.text.now in
    let p = err_from_is_err_and c.from_residual.result c.from_residual.ensures.1 in
    let e = c.in_err-settings.field-0.0 in
    let some : number e.refusal ≡ 0 → ⊥ = λ z. absurd (omega (arith, positive e.refusal, z)) in
    rw (p.1, p.2) (verify-stops text (as_begun (Err e)) ((begun text (as_begun (Err e)) c.in_err-settings.ensures.answer).refused some) some)

pub returns-in_err-settings-clause-numbers : goal.returns-in_err-settings-clause-numbers
returns-in_err-settings-clause-numbers c = returns-in_err-settings-clause-answer c ∙ verify_given c.args.text.now

pub slice_bounds-challenges-end : goal.slice_bounds-challenges-end
slice_bounds-challenges-end c = (rooms c.in_ok-settings.field-0.settings c.in_ok-settings.ensures.begins.allowed).challenges

pub slice_bounds-tables-end-5 : goal.slice_bounds-tables-end-5
slice_bounds-tables-end-5 c = sym (length-take-le _ _ (rooms c.in_ok-settings.field-0.settings c.in_ok-settings.ensures.begins.allowed).challenges)

pub slice_bounds-last-end : goal.slice_bounds-last-end
slice_bounds-last-end c = (rooms c.in_ok-settings.field-0.settings c.in_ok-settings.ensures.begins.allowed).element

pub slice_bounds-tables-end-6 : goal.slice_bounds-tables-end-6
slice_bounds-tables-end-6 c = sym (length-take-le _ _ (rooms c.in_ok-settings.field-0.settings c.in_ok-settings.ensures.begins.allowed).element)

pub slice_bounds-claims-end : goal.slice_bounds-claims-end
slice_bounds-claims-end c =
    let allowed = c.in_ok-settings.ensures.begins.allowed in
    omega (arith, claims-few _ allowed, c.claim_cells-claim_cells.ensures allowed)

pub slice_bounds-tables-end-7 : goal.slice_bounds-tables-end-7
slice_bounds-tables-end-7 c =
    let allowed = c.in_ok-settings.ensures.begins.allowed in
    sym (length-take-le _ _ (omega (arith, claims-few _ allowed, c.claim_cells-claim_cells.ensures allowed)))

fitting : (S S' : Settings) (t : Tables) → S ≡ S' → Long S t → fits S' verify_reads t ≡ true
fitting S S' t e long = ap (λ x. fits x verify_reads t) (sym e) ∙ lent_fitting S t long

pub verify_in-requires-clause-lent : goal.verify_in-requires-clause-lent
verify_in-requires-clause-lent c =
    let text = c.args.text.now in
    let S = c.in_ok-settings.field-0.settings in
    let allowed = c.in_ok-settings.ensures.begins.allowed in
    let known = begun text (as_begun (Ok c.in_ok-settings.field-0)) c.in_ok-settings.ensures.answer in
    let key_is = c.lent_cells-key_cells.ensures ∙ ap lent_cells (c.key_cells.ensures allowed) in
    let rounds_is = c.lent_cells-round_cells.ensures ∙ ap lent_cells (c.round_cells.ensures allowed) in
    let key_room : c.lent_cells-key_cells.result ≤ cells_room = omega (arith, key_is) in
    let rounds-room : c.lent_cells-round_cells.result ≤ cells_room = omega (arith, rounds_is) in
    let claims_are = c.claim_cells-claim_cells.ensures allowed in
    let claims-room : c.claim_cells-claim_cells.result ≤ 4096 = omega (arith, claims-few _ allowed, claims_are) in
    λ e same.
    let few = subst (λ x. (key_cells x ≤ cells_room) × (round_cells x ≤ cells_room)) (sym (known.settings_are e)) (tables_few text e same) in
    let key_long : c.lent_cells-key_cells.result ≡ key_cells S = key_is ∙ omega (arith, few.0) in
    let rounds-long : c.lent_cells-round_cells.result ≡ round_cells S = rounds_is ∙ omega (arith, few.1) in
    fitting S (settings_in (lines_of text)) _ (known.settings_are e) (record {
      key = length-take-le _ _ key_room ∙ key_long;
      message = λ _. 0;
      commitment = length-take-le _ _ c.item_cells-item_cells.ensures.1 ∙ c.item_cells-item_cells.ensures.0 allowed;
      rounds = length-take-le _ _ rounds-room ∙ rounds-long;
      challenges = length-take-le _ _ (rooms S allowed).challenges;
      last = length-take-le _ _ (rooms S allowed).element;
      claims = length-take-le _ _ claims-room ∙ claims_are;
    })

pub returns-clause-numbers : goal.returns-clause-numbers
returns-clause-numbers c = c.verify_in.ensures ∙ verify_given c.args.text.now
