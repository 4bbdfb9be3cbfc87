-- Texts whose settings are not refused, and the settings that a text begins with.
--
--   Looked, looked       what a text is whose settings are not refused
--   opened, opened_settings, header-settings
--                        what the reader of the settings gives for such a text: the settings of its lines
--   look-..              what the answer of a first look says
--   Answered, begun      what is known of the settings that a text begins with
--   front_.., begun_refused, begun_granted
--                        the answer, by that of the reader of the first lines
use mathlib.Core.Path.{◌≡◌, refl, sym, ap, subst, ◌∙◌}
use mathlib.Core.Option.{Option, none, some}
use mathlib.Core.List.{List}
use Prim.Native.Nat.{ℕ, zero, suc, ◌-◌, ◌≤◌}
use native.Mathlib.Omega.{arith}
use borrow.Author.Tests.{leb-true}
use lib.ListN.{length}
use lib.IntN.{ℤ}
use Rattle.protocol.specs.declared.Settings.{Settings}
use Rattle.std.specs.Prelude.{Ok, Err, Some, None}
use Rattle.protocol.specs.Refusal.{number}
use Rattle.protocol.specs.Answers.{Loaded}
use Rattle.protocol.specs.Basic.{choose, granted, among, first, unless}
use Rattle.protocol.specs.Settings.{degree_allowed, settings_refusal}
use Rattle.text_format.specs.Text.{Line, text_limit, lines_of, settings_in, no_settings, look_refusal, loaded, look_answer}
use Rattle.text_format.specs.Lines.{present, all_lines, settings_of, read_settings, begun_with, begun_answer}
use Rattle.protocol.proofs.Tests.{first_zero, unless-zero, granted-zero, granted_refused}
use Rattle.text_lines.specs.declared.header.Begun.{Begun}
use Rattle.text_lines.specs.declared.header.Disallowed.{Disallowed}
use Rattle.text_lines.specs.Header.{header_answer, as_begun}
use Rattle.text_lines.proofs.Looks.{Settled, settled, settled-settings, settled-look, look-missing, look-refused, header_unfound}

-- ---- a text whose settings are not refused

pub record Looked (text : List ℕ) : Type 0 where
  pub values : List ℤ
  pub rest : List ℕ
  pub more : List Line
  pub header_is : read_settings text ≡ some (values, rest)
  pub begins : Settled text values rest
  pub more_is : all_lines rest ≡ some more
  pub short : length text ≤ text_limit
  pub allowed : settings_refusal (settings_of values) ≡ 0

module _ (text : List ℕ) (e : look_refusal text ≡ 0) where
  short_text : length text ≤ text_limit
  unfolding look_refusal
  short_text = leb-true _ _ (unless-zero 0 _ (first_zero _ _ e).0)

  by_lines : (vs : List ℤ) (rest : List ℕ) → read_settings text ≡ some (vs, rest) → (o : Option (List Line)) → all_lines rest ≡ o →
      choose (present o) (settings_refusal (settings_of vs)) 2 ≡ 0 → Looked text
  unfolding choose present
  by_lines vs rest h none f g = absurd (omega (arith, g))
  by_lines vs rest h (some more) f g = record {
    values = vs;
    rest = rest;
    more = more;
    header_is = h;
    begins = settled text vs rest h;
    more_is = f;
    short = short_text;
    allowed = g;
  }

  by_header : (o : Option (List ℤ × List ℕ)) → read_settings text ≡ o → Looked text
  by_header none h = absurd (omega (arith, sym e ∙ look-missing text short_text h))
  by_header (some (vs, rest)) h =
      by_lines vs rest h (all_lines rest) refl (sym (settled-look text vs rest (settled text vs rest h) short_text) ∙ e)

  pub looked : Looked text
  looked = by_header (read_settings text) refl

-- what the reader of the settings gives for a text that is not refused
module _ (text : List ℕ) (l : Looked text) (b : Begun) (b-is : Some b ≡ header_answer text (read_settings text)) where
  pub opened : b ≡ record { settings = settings_of l.values; next = length text - length l.rest }
  unfolding header_answer
  opened =
      let same : Some b ≡ Some (record { settings = settings_of l.values; next = length text - length l.rest }) = b-is ∙ ap (header_answer text) l.header_is in
      cc

  pub opened_settings : b.settings ≡ settings_of l.values
  opened_settings = ap (λ x. x.settings) opened

pub header-settings : (text : List ℕ) (b : Begun) → Some b ≡ header_answer text (read_settings text) → look_refusal text ≡ 0 → settings_in (lines_of text) ≡ b.settings
header-settings text b b-is e =
    let l = looked text e in
    settled-settings text l.values l.rest l.begins l.more l.more_is ∙ sym (opened_settings text l b b-is)

-- what the answer of a first look says
module _ (text : List ℕ) (r : Loaded) (r-is : r ≡ look_answer text) where
  pub look-number : r.refusal ≡ look_refusal text
  unfolding look_answer loaded
  look-number = ap (λ x. x.refusal) r-is

  module _ (e : r.refusal ≡ 0) where
    pub look-settings : r.settings ≡ settings_in (lines_of text)
    unfolding look_answer loaded
    look-settings = ap (λ x. x.settings) r-is ∙ granted-zero _ _ _ (sym look-number ∙ e)

    pub look-allowed : settings_refusal r.settings ≡ 0
    unfolding look_refusal
    look-allowed = ap settings_refusal look-settings ∙ (first_zero _ _ (first_zero _ _ (first_zero _ _ (sym look-number ∙ e)).1).1).0

-- ---- the settings that a text begins with

-- five zeros are not allowed
no-settings : settings_refusal no_settings ≡ 3
unfolding settings_refusal no_settings degree_allowed among first unless
no-settings = refl

-- a text that is refused has a first look's answer; the settings are allowed, and they are the text's where its lines are of the stated shape
pub record Answered (text : List ℕ) (r : Loaded) : Type 0 where
  pub refused : (r.refusal ≡ 0 → ⊥) → r ≡ look_answer text
  pub allowed : r.refusal ≡ 0 → settings_refusal r.settings ≡ 0
  pub settings_are : look_refusal text ≡ 0 → r.settings ≡ settings_in (lines_of text)

module _ (text : List ℕ) where
  abbrev front : Settings
  front = begun_with (read_settings text)

  begun_looked : (r : Loaded) → r ≡ look_answer text → Answered text r
  begun_looked r r-is = record {
    refused = λ _. r-is;
    allowed = look-allowed text r r-is;
    settings_are = λ e. look-settings text r r-is (look-number text r r-is ∙ e);
  }

  front_is : look_refusal text ≡ 0 → front ≡ settings_in (lines_of text)
  unfolding begun_with
  front_is e =
      let l = looked text e in
      ap begun_with l.header_is ∙ sym (settled-settings text l.values l.rest l.begins l.more l.more_is)

  begun_allowed : settings_refusal front ≡ 0 → Answered text (record { refusal = 0; settings = front })
  begun_allowed e = record { refused = λ n. absurd (n refl); allowed = λ _. e; settings_are = front_is }

  begun_by : (n : ℕ) → settings_refusal front ≡ n → (r : Loaded) → r ≡ granted n (record { refusal = 0; settings = front }) (look_answer text) → Answered text r
  unfolding granted
  begun_by zero e r f = subst (Answered text) (sym f) (begun_allowed e)
  begun_by (suc n) e r f = begun_looked r f

  pub begun : (r : Loaded) → r ≡ begun_answer text → Answered text r
  unfolding begun_answer
  begun r e = begun_by (settings_refusal front) refl r e

  -- by the answer of the reader of the first lines
  front_by : (o : Option (List ℤ × List ℕ)) (b : Begun) → Some b ≡ header_answer text o → b.settings ≡ begun_with o
  unfolding header_answer begun_with
  front_by none b e = let z : ◌≡◌ {A = ℕ} 0 1 = cc in absurd (omega arith)
  front_by (some (vs, rest)) b e =
      let same : b ≡ record { settings = settings_of vs; next = length text - length rest } = cc in
      ap (λ x. x.settings) same

  pub front_missing : None ≡ header_answer text (read_settings text) → settings_refusal front ≡ 0 → ⊥
  unfolding begun_with
  front_missing e z = absurd (omega (arith, ap (λ o. settings_refusal (begun_with o)) (header_unfound text e), no-settings))

  pub begun_refused : (d : Disallowed) → number d.refusal ≡ look_refusal text → (settings_refusal front ≡ 0 → ⊥) → as_begun (Err d) ≡ begun_answer text
  unfolding begun_answer
  begun_refused d e n = look-refused text d.refusal e ∙ sym (granted_refused _ _ _ n)

  module _ (b : Begun) (b-is : Some b ≡ header_answer text (read_settings text)) where
    pub front_refused : (settings_refusal b.settings ≡ 0 → ⊥) → settings_refusal front ≡ 0 → ⊥
    front_refused n z = n (ap settings_refusal (front_by (read_settings text) b b-is) ∙ z)

    pub begun_granted : settings_refusal b.settings ≡ 0 → as_begun (Ok b) ≡ begun_answer text
    unfolding begun_answer
    begun_granted e =
        let same = front_by (read_settings text) b b-is in
        (λ j. record { refusal = 0; settings = same j }) ∙ sym (granted-zero _ _ _ (ap settings_refusal (sym same) ∙ e))
