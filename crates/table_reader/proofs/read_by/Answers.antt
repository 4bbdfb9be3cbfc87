-- The values are gathered, then tested, then stored.
use Rattle.std.proofs.Common.{◌≡◌, ℕ, ℤ, true, List, refl, sym, ap, subst, ◌∙◌, rules, Ok, Err}
use Rattle.protocol.specs.declared.Settings.{Settings}
use Rattle.protocol.specs.declared.Parts.{Parts}
use Rattle.protocol.specs.Answers.{as_loaded}
use Rattle.protocol.specs.Refusal.{number}
use Rattle.text_format.specs.Text.{Tables, entries_refusal}
use Rattle.text_format.specs.Promises.{Read}
use Rattle.text_parts.specs.Parts.{lengths_of}
use Rattle.text_parts.specs.Lent.{tables_lent}
use Rattle.text_lines.proofs.Looks.{numbered}
use Rattle.text_values.specs.Stored.{Gathered}
use Rattle.table_reader.specs.Cut.{cut_tables}
use Rattle.table_reader.proofs.Whole.{read-refused, read_refused_entries, read_done, read_allowed}
use Rattle.table_reader.proofs.read_by.Goals as goal

pub returns-in_err-settings-clause-read : goal.returns-in_err-settings-clause-read
returns-in_err-settings-clause-read c b =
    let a = c.args in
    let t = tables_lent a.tables.now in
    let r = c.in_err-settings.field-0.0 in
    let same : c.from_residual.result ≡ Err r = search rules in
    let values = c.read_values.new.values in
    let g = subst (λ n. Gathered a.parts n a.text.now (as_loaded (Err r)) values) c.lengths-lengths.ensures (c.in_err-settings.ensures.gathered (b, c.requires)) in
    subst (λ x. Read a.parts a.text.now t (as_loaded x) t) (sym same) (read-refused a.parts a.text.now t (as_loaded (Err r)) values g (numbered r))

-- what was gathered is not refused
gathered : (P : Parts) (text n : List ℕ) (S : Settings) (values : List ℤ) (t : Tables) → n ≡ lengths_of t → Gathered P n text (as_loaded (Ok S)) values → Gathered P (lengths_of t) text (as_loaded (Ok S)) values
gathered P text n S values t e g = subst (λ m. Gathered P m text (as_loaded (Ok S)) values) e g

pub returns-in_err-refusal-clause-read : goal.returns-in_err-refusal-clause-read
returns-in_err-refusal-clause-read c b =
    let a = c.args in
    let P = a.parts in
    let text = a.text.now in
    let t = tables_lent a.tables.now in
    let S = c.in_ok-settings.settings in
    let r = c.in_err-refusal.field-0.0 in
    let same : c.from_residual-in_err-refusal.result ≡ Err r = search rules in
    let values = c.read_values.new.values in
    let g = gathered P text _ S values t c.lengths-lengths.ensures (c.in_ok-settings.ensures.gathered (b, c.requires)) in
    let allowed = read_allowed P text t (as_loaded (Ok S)) values g refl in
    let number-is = c.in_err-refusal.ensures allowed ∙ ap (λ n. entries_refusal S true (cut_tables n values)) c.lengths-lengths.ensures in
    subst (λ x. Read P text t (as_loaded x) t) (sym same) (read_refused_entries P text t (as_loaded (Ok S)) values g refl (number r) number-is (as_loaded (Err r)) refl (numbered r))

pub returns-clause-read : goal.returns-clause-read
returns-clause-read c b =
    let a = c.args in
    let P = a.parts in
    let text = a.text.now in
    let t = tables_lent a.tables.now in
    let S = c.in_ok-settings.settings in
    let values = c.read_values.new.values in
    let g = gathered P text _ S values t c.lengths-lengths.ensures (c.in_ok-settings.ensures.gathered (b, c.requires)) in
    let allowed = read_allowed P text t (as_loaded (Ok S)) values g refl in
    let number-is = c.in_ok-refusal.ensures allowed ∙ ap (λ n. entries_refusal S true (cut_tables n values)) c.lengths-lengths.ensures in
    read_done P text t (as_loaded (Ok S)) values g refl 0 number-is refl _ c.all.ensures.stored
