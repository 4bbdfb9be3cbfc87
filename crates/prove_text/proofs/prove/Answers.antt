-- The settings, and then tables of exactly the lengths that the settings ask for.
use Rattle.std.proofs.Common.{true, Ok, Err, ◌≡◌, ◌≤◌, sym, ap, subst, ◌∙◌, arith}
use Rattle.std.proofs.lemmas.Result.{err_from_is_err_and}
use lib.Seq.{length-take-le}
use Rattle.protocol.specs.declared.Settings.{Settings}
use Rattle.protocol.specs.Layout.{key_cells, round_cells}
use Rattle.protocol.specs.Refusal.{number}
use Rattle.protocol.specs.Settings.{settings_refusal, cells}
use Rattle.text_format.specs.Text.{Tables, fits, lines_of, settings_in}
use Rattle.text_format.specs.Programs.{prove_reads}
use Rattle.text_parts.specs.Parts.{cells_room, lent_cells}
use Rattle.table_reader.proofs.OnText.{look-refusal}
use Rattle.table_reader.proofs.Rooms.{rooms}
use Rattle.table_writer.proofs.Required.{positive}
use Rattle.text_lines.specs.Header.{as_begun}
use Rattle.text_lines.proofs.Looked.{begun}
use Rattle.prove_text.proofs.Proves.{prove-refused, Few, tables_few, lent_fitting}
use Rattle.prove_text.proofs.prove.Goals as goal

pub returns-in_err-begun : goal.returns-in_err-begun
returns-in_err-begun c =
    let text = c.args.text.now in
    let p = err_from_is_err_and c.from_residual.result c.from_residual.ensures.1 in
    let e = c.in_err-begun.field-0.0 in
    let some : number e.refusal ≡ 0 → ⊥ = λ z. absurd (omega (arith, positive e.refusal, z)) in
    rw (p.1, p.2) (prove-refused text c.args.out.now (number e.refusal) some
    (look-refusal text (as_begun (Err e)) ((begun text (as_begun (Err e)) c.in_err-begun.ensures.answer).refused some) prove_reads some))

pub slice_bounds-challenges-end : goal.slice_bounds-challenges-end
slice_bounds-challenges-end c = (rooms c.in_ok-begun.begun.settings c.in_ok-begun.ensures.begins.allowed).challenges

pub slice_bounds-prove_in-end-3 : goal.slice_bounds-prove_in-end-3
slice_bounds-prove_in-end-3 c = sym (length-take-le _ _ (rooms c.in_ok-begun.begun.settings c.in_ok-begun.ensures.begins.allowed).challenges)

fitting : (S S' : Settings) (t : Tables) → S ≡ S' → fits S prove_reads t ≡ true → fits S' prove_reads t ≡ true
fitting S S' t e h = ap (λ x. fits x prove_reads t) (sym e) ∙ h

pub prove_in-requires-clause-lent : goal.prove_in-requires-clause-lent
prove_in-requires-clause-lent c =
    let text = c.args.text.now in
    let S = c.in_ok-begun.begun.settings in
    let allowed = c.in_ok-begun.ensures.begins.allowed in
    let known = begun text (as_begun (Ok c.in_ok-begun.begun)) c.in_ok-begun.ensures.answer in
    let key_is : c.lent_cells-key_cells.result ≡ lent_cells (key_cells S) = c.lent_cells-key_cells.ensures ∙ ap lent_cells (c.key_cells.ensures allowed) in
    let message_is : c.lent_cells-cells.result ≡ lent_cells (cells S) = c.lent_cells-cells.ensures ∙ ap lent_cells (c.cells.ensures allowed) in
    let key_room : c.lent_cells-key_cells.result ≤ cells_room = omega (arith, key_is) in
    let message-room : c.lent_cells-cells.result ≤ cells_room = omega (arith, message_is) in
    λ e same.
    let few : Few S = subst Few (sym (known.settings_are e)) (tables_few text e same (subst (λ x. settings_refusal x ≡ 0) (known.settings_are e) allowed)) in
    let key_long : c.lent_cells-key_cells.result ≡ key_cells S = key_is ∙ omega (arith, few.key) in
    let message-long : c.lent_cells-cells.result ≡ cells S = message_is ∙ omega (arith, few.message) in
    fitting S (settings_in (lines_of text)) _ (known.settings_are e)
    (lent_fitting S _ _ _ (length-take-le _ _ key_room ∙ key_long) (length-take-le _ _ message-room ∙ message-long) (length-take-le _ _ (rooms S allowed).challenges))

pub prove_in-requires-clause-rounds_lent : goal.prove_in-requires-clause-rounds_lent
prove_in-requires-clause-rounds_lent c =
    let text = c.args.text.now in
    let S = c.in_ok-begun.begun.settings in
    let allowed = c.in_ok-begun.ensures.begins.allowed in
    let known = begun text (as_begun (Ok c.in_ok-begun.begun)) c.in_ok-begun.ensures.answer in
    let rounds_is : c.lent_cells-round_cells.result ≡ lent_cells (round_cells S) = c.lent_cells-round_cells.ensures ∙ ap lent_cells (c.round_cells.ensures allowed) in
    let rounds-room : c.lent_cells-round_cells.result ≤ cells_room = omega (arith, rounds_is) in (
      λ e same.
          let few : Few S = subst Few (sym (known.settings_are e)) (tables_few text e same (subst (λ x. settings_refusal x ≡ 0) (known.settings_are e) allowed)) in
          let rounds-long : c.lent_cells-round_cells.result ≡ round_cells S = rounds_is ∙ omega (arith, few.rounds) in
          length-take-le _ _ rounds-room ∙ rounds-long ∙ ap round_cells (known.settings_are e),
      c.in_ok-begun.ensures.begins,
    )
