-- The lines of a good text are followed to its end, and the lengths of the lent tables are left. Otherwise a look says the refusal.
use Rattle.std.proofs.Common.{◌≡◌, ℕ, true, false, List, ℤ, refl, sym, ap, subst, ◌∙◌, rules, Ok, Err}
use Rattle.protocol.specs.Answers.{as_loaded}
use Rattle.protocol.specs.declared.Refusal.{Refusal}
use Rattle.protocol.specs.declared.Settings.{Settings}
use Rattle.protocol.specs.declared.Parts.{Parts}
use Rattle.protocol.proofs.Tests.{and_intro}
use Rattle.protocol.proofs.Refusals.{and_fails_left, and_fails_right}
use Rattle.text_format.specs.Text.{lines_of, settings_in, look_refusal, look_answer}
use Rattle.text_parts.specs.Parts.{lengths_fit, lengths_are, part_of}
use Rattle.text_parts.proofs.Counted.{lengths-counted}
use Rattle.text_lines.specs.Header.{Begins}
use Rattle.text_lines.proofs.Looks.{look-granted, numbered}
use Rattle.text_lines.proofs.Looked.{header-settings, look-number}
use Rattle.text_values.specs.Stored.{in_order, Followed, Gathered}
use Rattle.text_values.proofs.Gathers.{gathered-look, gathered_refused, gathered_granted}
use Rattle.text_values.proofs.read_values.Goals as goal

-- a text whose lines were followed to its end
module _ (text : List ℕ) (P : Parts) (S : Settings) (from : ℕ) (lengths : List ℕ) (values : List ℤ) (begins : Begins text S from) (followed : Followed P text true values) where
  unrefused : look_refusal text ≡ 0
  unrefused = followed.unrefused refl

  settings_are : settings_in (lines_of text) ≡ S
  settings_are = header-settings text _ begins.header unrefused

  looks : as_loaded (Ok S) ≡ look_answer text
  looks = look-granted text S unrefused settings_are

  ordered : in_order P text ≡ true
  ordered = sym (followed.answer unrefused)

  fitted : lengths_are (part_of S P) lengths ≡ lengths_fit (settings_in (lines_of text)) P lengths
  fitted = lengths-counted S P begins.allowed lengths ∙ ap (λ x. lengths_fit x P lengths) (sym settings_are)

  unfit : lengths_are (part_of S P) lengths ≡ false → Gathered P lengths text (as_loaded (Err Refusal.Size)) values
  unfit e = gathered_refused P lengths text (as_loaded (Ok S)) looks values refl (as_loaded (Err Refusal.Size)) refl (and_fails_right (in_order P text) _ (sym fitted ∙ e))

  fit : lengths_are (part_of S P) lengths ≡ true → Gathered P lengths text (as_loaded (Ok S)) values
  fit e = gathered_granted P lengths text (as_loaded (Ok S)) looks values refl (and_intro ordered (sym fitted ∙ e)) (followed.stored refl)

pub returns-in_err-read_settings-clause-gathered : goal.returns-in_err-read_settings-clause-gathered
returns-in_err-read_settings-clause-gathered c b =
    let a = c.args in
    let r = c.in_err-read_settings.field-0.0 in
    let values = c.read_wanted.new.values in
    let same : c.from_residual.result ≡ Err r = search rules in
    subst (λ x. Gathered a.parts a.lengths a.text.now (as_loaded x) values) (sym same)
    (gathered-look a.parts a.lengths a.text.now (as_loaded (Err r)) c.in_err-read_settings.ensures values (numbered r))

pub returns-then-not-read_wanted-clause-gathered : goal.returns-then-not-read_wanted-clause-gathered
returns-then-not-read_wanted-clause-gathered c b =
    let a = c.args in
    let t = a.text.now in
    let S = c.in_ok-read_settings.field-0 in
    let looked : as_loaded (Ok S) ≡ look_answer t = c.in_ok-read_settings.ensures in
    let unrefused = sym (look-number t (as_loaded (Ok S)) looked) in
    gathered_refused a.parts a.lengths t (as_loaded (Ok S)) looked c.read_wanted.new.values refl (as_loaded (Err Refusal.Size)) refl
    (and_fails_left (in_order a.parts t) _ (sym ((c.read_wanted.ensures.followed b).answer unrefused) ∙ c.if-not-read_wanted.true))

pub returns-then-not-fits-clause-gathered : goal.returns-then-not-fits-clause-gathered
returns-then-not-fits-clause-gathered c b =
    let a = c.args in
    unfit a.text.now a.parts a.settings a.from a.lengths c.read_wanted.new.values b.0
    (subst (λ r. Followed a.parts a.text.now r c.read_wanted.new.values) c.if-not-read_wanted.false (c.read_wanted.ensures.followed b)) (sym c.fits.ensures ∙ c.if-not-fits.true)

pub returns-clause-gathered : goal.returns-clause-gathered
returns-clause-gathered c b =
    let a = c.args in
    fit a.text.now a.parts a.settings a.from a.lengths c.read_wanted.new.values b.0
    (subst (λ r. Followed a.parts a.text.now r c.read_wanted.new.values) c.if-not-read_wanted.false (c.read_wanted.ensures.followed b)) (sym c.fits.ensures ∙ c.if-not-fits.false)
