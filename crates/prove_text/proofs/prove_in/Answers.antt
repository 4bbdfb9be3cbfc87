-- The reader, and then the opening and its text.
use Rattle.std.proofs.Common.{Ok, Err, ◌≡◌, [], refl, subst, ap, sym, ◌∙◌, arith}
use Rattle.std.proofs.lemmas.Result.{err_from_is_err_and}
use Rattle.protocol.specs.Answers.{as_loaded, as_written}
use Rattle.protocol.specs.Layout.{round_cells}
use Rattle.protocol.specs.Refusal.{number}
use Rattle.text_format.specs.Promises.{Read}
use Rattle.text_format.specs.Programs.{prove_reads}
use Rattle.text_parts.specs.Parts.{tables_of}
use Rattle.text_parts.specs.Lent.{tables_lent}
use Rattle.table_reader.proofs.OnText.{number_is, settings-unrefused, same_lines, settings_are, tables_are, settings-allowed, entries-passed, still-fitting}
use Rattle.table_writer.proofs.Required.{positive}
use Rattle.prove_text.proofs.Proves.{prove-refused, prove_done, openable}
use Rattle.prove_text.proofs.prove_in.Goals as goal

pub returns-in_err-settings : goal.returns-in_err-settings
returns-in_err-settings c =
    let a = c.args in
    let text = a.text.now in
    let t = tables_of a.key.now a.message.now [] [] a.challenges.now [] [] in
    let t' = tables_lent c.read_tables.new.tables in
    let p = err_from_is_err_and c.from_residual.result c.from_residual.ensures.1 in
    let e = c.in_err-settings.field-0.0 in
    let some : number e ≡ 0 → ⊥ = λ z. absurd (omega (arith, positive e, z)) in
    let got = subst (λ P. Read P text t (as_loaded (Err e)) t') c.reads.ensures (c.in_err-settings.ensures.read c.requires.rounds_lent.1) in
    rw (p.1, p.2) (prove-refused text a.out.now (number e) some (sym (number_is text prove_reads t t' c.requires.lent (as_loaded (Err e)) got)))

pub print_opening-requires : goal.print_opening-requires
print_opening-requires c =
    let a = c.args in
    let text = a.text.now in
    let S = c.in_ok-settings.settings in
    let t = tables_of a.key.now a.message.now [] [] a.challenges.now [] [] in
    let t' = tables_lent c.read_tables.new.tables in
    let r = as_loaded (Ok S) in
    let got : Read prove_reads text t r t' = subst (λ P. Read P text t r t') c.reads.ensures (c.in_ok-settings.ensures.read c.requires.rounds_lent.1) in
    openable S t' a.rounds.now
    (settings-allowed text prove_reads t t' c.requires.lent r got refl)
    (still-fitting text prove_reads t t' c.requires.lent r got refl c.in_ok-settings.ensures.lengths)
    (entries-passed text prove_reads t t' c.requires.lent r got refl)
    (c.requires.rounds_lent.0 (settings-unrefused text prove_reads t t' c.requires.lent r got refl) (same_lines text prove_reads t t' c.requires.lent r got refl)
    ∙ sym (ap round_cells (settings_are text prove_reads t t' c.requires.lent r got refl)))

pub returns : goal.returns
returns c =
    let a = c.args in
    let text = a.text.now in
    let S = c.in_ok-settings.settings in
    let t = tables_of a.key.now a.message.now [] [] a.challenges.now [] [] in
    let t' = tables_lent c.read_tables.new.tables in
    let r = as_loaded (Ok S) in
    let got : Read prove_reads text t r t' = subst (λ P. Read P text t r t') c.reads.ensures (c.in_ok-settings.ensures.read c.requires.rounds_lent.1) in
    prove_done text a.out.now S t' (settings_are text prove_reads t t' c.requires.lent r got refl) (tables_are text prove_reads t t' c.requires.lent r got refl)
    (sym (number_is text prove_reads t t' c.requires.lent r got))
    (as_written c.print_opening.result) c.print_opening.new.out c.print_opening.ensures
