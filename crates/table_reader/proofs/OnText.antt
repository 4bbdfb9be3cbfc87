-- A program's call on text: a first look, and the reader with tables of exactly their lengths, where the text has the lines that its settings ask for. P says which parts the program reads.
--
--   look-refusal                   a text whose settings are refused
--   same_refusal, number_is        where the lent tables have their lengths, the reader refuses what the program refuses; of a text that a first look
--                                  refuses, or that has other lines, nothing is asked
--   settings-unrefused, same_lines where nothing is refused, a first look refuses nothing, and the text has the lines that its settings ask for
--   settings_are, tables_are       what the reader gives then
--   settings-allowed, entries-passed   and what is known of that
--   still-fitting                  tables keep their lengths
use mathlib.Core.Path.{◌≡◌, refl, sym, ap, ◌∙◌}
use mathlib.Core.Bool.{Bool, true, false, ◌&&◌}
use mathlib.Core.List.{List, [], ◌∷◌}
use Prim.Native.Nat.{ℕ, zero, suc}
use native.Mathlib.Omega.{arith}
use Rattle.protocol.specs.declared.Settings.{Settings}
use Rattle.protocol.specs.declared.Parts.{Parts}
use Rattle.protocol.specs.Answers.{Loaded}
use Rattle.protocol.specs.Basic.{first, unless}
use Rattle.protocol.specs.Settings.{settings_refusal}
use Rattle.text_format.specs.Text.{spots_of, same_spots, wanted}
use Rattle.text_format.specs.Text.{Tables, fits, lines_of, settings_in, tables_in, look_refusal, loaded, look_answer, entries_refusal, text_refusal, read_refusal, read_answer, read_exit}
use Rattle.text_format.specs.Promises.{Read}
use Rattle.protocol.proofs.Tests.{and_split, first_zero, unless-zero, granted-zero}
use Rattle.protocol.proofs.Refusals.{first_stops}
use Rattle.text_parts.specs.Parts.{lengths_of, lengths_fit}
use Rattle.text_parts.proofs.Exactly.{lengths-fit}
use Rattle.table_reader.specs.Parts.{Lent}

module _ (text : List ℕ) where
  abbrev S : Settings
  S = settings_in (lines_of text)

  module _ (r : Loaded) (r-is : r ≡ look_answer text) where
    look-number : r.refusal ≡ look_refusal text
    unfolding look_answer loaded
    look-number = ap (λ x. x.refusal) r-is

    pub look-refusal : (P : Parts) → (r.refusal ≡ 0 → ⊥) → text_refusal P true text ≡ r.refusal
    unfolding text_refusal
    look-refusal P h = first_stops _ _ (λ z. h (look-number ∙ z)) ∙ sym look-number

  asked : (a b : Bool) → (a ≡ true → b ≡ true) → (a && b) ≡ (a && true)
  asked true b f = f refl
  asked false b f = refl

  refusal_by : (P : Parts) (lent : Bool) (n : ℕ) → look_refusal text ≡ n → (look_refusal text ≡ 0 → same_spots (spots_of (lines_of text)) (wanted S P) ≡ true → lent ≡ true)
      → text_refusal P lent text ≡ text_refusal P true text
  unfolding text_refusal
  refusal_by P lent zero e f =
      ap (λ b. first (look_refusal text ∷ unless 7 b ∷ entries_refusal S true (tables_in (lines_of text)) ∷ [])) (asked (same_spots (spots_of (lines_of text)) (wanted S P)) lent (f e))
  refusal_by P lent (suc n) e f = first_stops _ _ (λ z. absurd (omega arith)) ∙ sym (first_stops _ _ (λ z. absurd (omega arith)))

  module _ (P : Parts) (t t' : Tables) (fit : Lent P text t) (r : Loaded) (h : Read P text t r t') where
    pub same_refusal : read_refusal P text t ≡ text_refusal P true text
    unfolding read_refusal
    same_refusal = refusal_by P (fits S P t) (look_refusal text) refl fit

    pub number_is : r.refusal ≡ text_refusal P true text
    unfolding read_answer loaded
    number_is = ap (λ x. x.refusal) h.answer ∙ same_refusal

    module _ (e : r.refusal ≡ 0) where
      unrefused : text_refusal P true text ≡ 0
      unrefused = sym number_is ∙ e

      pub settings-unrefused : look_refusal text ≡ 0
      unfolding text_refusal
      settings-unrefused = (first_zero _ _ unrefused).0

      pub same_lines : same_spots (spots_of (lines_of text)) (wanted S P) ≡ true
      unfolding text_refusal
      same_lines = (and_split (unless-zero 6 _ (first_zero _ _ (first_zero _ _ unrefused).1).0)).0

      pub settings_are : r.settings ≡ S
      unfolding read_answer loaded
      settings_are = ap (λ x. x.settings) h.answer ∙ granted-zero _ _ _ (same_refusal ∙ unrefused)

      pub tables_are : t' ≡ tables_in (lines_of text)
      unfolding read_exit
      tables_are = h.tables_exit ∙ granted-zero _ _ _ (same_refusal ∙ unrefused)

      pub settings-allowed : settings_refusal r.settings ≡ 0
      unfolding look_refusal
      settings-allowed = ap settings_refusal settings_are ∙ (first_zero _ _ (first_zero _ _ (first_zero _ _ settings-unrefused).1).1).0

      pub entries-passed : entries_refusal r.settings true t' ≡ 0
      unfolding text_refusal
      entries-passed = (λ j. entries_refusal (settings_are j) true (tables_are j)) ∙ (first_zero _ _ (first_zero _ _ (first_zero _ _ unrefused).1).1).0

      pub still-fitting : lengths_of t' ≡ lengths_of t → fits r.settings P t' ≡ true
      still-fitting l = ap (λ x. fits x P t') settings_are ∙ sym (lengths-fit S P t') ∙ ap (lengths_fit S P) l ∙ lengths-fit S P t ∙ fit settings-unrefused same_lines
