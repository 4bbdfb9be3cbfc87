-- What the calls on text leave in the slices that they are lent, and what they answer.
use mathlib.Core.Path.{◌≡◌, refl, sym, ap, ◌∙◌}
use mathlib.Core.Logic.{◌≢◌}
use mathlib.Core.Bool.{Bool, true, false, ◌&&◌}
use mathlib.Core.List.{List, [], ◌∷◌}
use Prim.Native.Nat.{ℕ, zero, suc}
use native.Mathlib.Omega.{arith}
use borrow.Author.Tests.{eq-eqb, ne_eqb}
use lib.ListN.{length}
use Rattle.protocol.specs.declared.Settings.{Settings}
use Rattle.protocol.specs.declared.Parts.{Parts}
use Rattle.std.specs.Prelude.{Result, Ok, Err}
use Rattle.protocol.specs.declared.Refusal.{Refusal}
use Rattle.protocol.specs.declared.Verdict.{Verdict}
use Rattle.protocol.specs.Refusal.{refusal_of}
use Rattle.protocol.specs.Answers.{Loaded, Written, as_checked, as_written}
use Rattle.protocol.specs.Basic.{first, unless, granted}
use Rattle.protocol.specs.Settings.{has_length}
use Rattle.text_format.specs.Text.{Tables, wanted, fits, lines_of, spots_of, same_spots, entries_refusal, settings_in, tables_in, loaded, look_refusal}
use Rattle.text_format.specs.Text.{look_answer, text_refusal, read_refusal, read_answer, read_exit, text_of, written, overwritten, write_refusal, write_answer, write_exit}
use Rattle.text_format.specs.Promises.{Read, Wrote}
use Rattle.protocol.proofs.Tests.{granted-zero, granted_refused}
use Rattle.protocol.proofs.Refusals.{first_stops, first_passes, first_fails, first_holds, and_fails_right}
use Rattle.slices.specs.Slices.{lent}
use Rattle.slices.proofs.Lent.{lent_stops, lent_passes}
use Rattle.text_calls.specs.Texts.{parts_of, parts_named, settings_width, settings_numbers}
use Rattle.text_calls.specs.Promises.{look_number, Looked, read_number, ReadStored, write_number, WroteStored}

-- the number of an answer
pub written-number : (r : Result ℕ Refusal) → (as_written r).refusal ≡ refusal_of r
written-number (Ok n) = refl
written-number (Err e) = refl

pub checked-number : (r : Result Verdict Refusal) → (as_checked r).refusal ≡ refusal_of r
checked-number (Ok v) = refl
checked-number (Err e) = refl

-- ---- a first look

module _ (text : List ℕ) (l : Loaded) (e : l ≡ look_answer text) where
  pub look-number : l.refusal ≡ look_refusal text
  unfolding look_answer loaded
  look-number = ap (λ (x : Loaded). x.refusal) e

  look-settings : l.refusal ≡ 0 → l.settings ≡ settings_in (lines_of text)
  unfolding look_answer loaded
  look-settings h = ap (λ (x : Loaded). x.settings) e ∙ granted-zero _ _ _ (sym look-number ∙ h)

  module _ (settings : List ℕ) where
    pub look-refused : l.refusal ≢ 0 → Looked text settings l.refusal settings
    look-refused h = record { refusal = same; settings_exit = sym (granted_refused _ _ _ (λ z. h (same ∙ z))) }
      where
        same : l.refusal ≡ look_number text settings
        same = unfold look_number in look-number ∙ sym (first_stops _ _ (λ z. h (look-number ∙ z)))

    pub look_unfit : l.refusal ≡ 0 → length settings ≢ settings_width → Looked text settings 7 settings
    look_unfit h s = record { refusal = same; settings_exit = sym (granted_refused _ _ _ (λ z. let no : ◌≡◌ {A = ℕ} 7 0 = same ∙ z in omega arith)) }
      where
        same : 7 ≡ look_number text settings
        same = unfold look_number in unfold has_length in sym (first_passes _ _ (sym look-number ∙ h) ∙ first_fails 6 _ _ (ne_eqb _ _ s))

    pub look-made : l.refusal ≡ 0 → length settings ≡ settings_width → (settings' : List ℕ) → settings' ≡ settings_numbers l.settings → Looked text settings 0 settings'
    look-made h s settings' p = record { refusal = same; settings_exit = p ∙ ap settings_numbers (look-settings h) ∙ sym (granted-zero _ _ _ (sym same)) }
      where
        same : 0 ≡ look_number text settings
        same = unfold look_number in unfold has_length in sym (first_passes _ _ (sym look-number ∙ h) ∙ first_holds 7 _ _ (eq-eqb _ _ s) ∙ unfold first in refl)

-- ---- the table reader

seven : (a : ℕ) (x y z : Bool) (rest : List ℕ) → z ≡ false → first (a ∷ unless 7 (x && (y && z)) ∷ rest) ≡ first (a ∷ 7 ∷ [])
unfolding first
seven zero x y z rest e = first_fails 6 _ rest (and_fails_right x (y && z) (and_fails_right y z e))
seven (suc a) x y z rest e = refl

some-refusal : (a : ℕ) → first (a ∷ 7 ∷ []) ≢ 0
unfolding first
some-refusal zero z = omega arith
some-refusal (suc a) z = omega arith

and-true : (a b : Bool) → b ≡ true → (a && b) ≡ a
and-true true b e = e
and-true false b e = refl

module _ (n : ℕ) (text settings : List ℕ) (t : Tables) where
  -- the slice for the settings or the number of parts is refused
  pub read_unfit : (r : ℕ) → r ≡ first (look_refusal text ∷ 7 ∷ []) → (has_length settings_width settings && parts_named n) ≡ false → ReadStored n text settings t r settings t
  unfolding read_number text_refusal
  read_unfit r e b = record { refusal = same; settings_exit = sym (granted_refused _ _ _ refused); tables_exit = sym (granted_refused _ _ _ refused) }
    where
      unfit : read_number n text settings t ≡ first (look_refusal text ∷ 7 ∷ [])
      unfit =
          let S = settings_in (lines_of text) in
          seven (look_refusal text) (same_spots (spots_of (lines_of text)) (wanted S (parts_of n))) (fits S (parts_of n) t) (has_length settings_width settings && parts_named n)
          (entries_refusal S true (tables_in (lines_of text)) ∷ []) b

      same : r ≡ read_number n text settings t
      same = e ∙ sym unfit

      refused : read_number n text settings t ≢ 0
      refused z = some-refusal (look_refusal text) (sym e ∙ same ∙ z)

  module _ (b : (has_length settings_width settings && parts_named n) ≡ true) (P : Parts) (p : P ≡ parts_of n) (l : Loaded) (t' : Tables) (given : Read P text t l t') where
    read_is : read_refusal P text t ≡ read_number n text settings t
    unfolding read_number read_refusal
    read_is = ap (λ x. text_refusal x (fits (settings_in (lines_of text)) x t) text) p ∙ ap (λ x. text_refusal (parts_of n) x text) (sym (and-true _ _ b))

    same : l.refusal ≡ read_number n text settings t
    unfolding read_answer loaded
    same = ap (λ (x : Loaded). x.refusal) given.answer ∙ read_is

    tables : t' ≡ granted (read_number n text settings t) (tables_in (lines_of text)) t
    unfolding read_exit
    tables = given.tables_exit ∙ ap (λ x. granted x (tables_in (lines_of text)) t) read_is

    pub read-refused : l.refusal ≢ 0 → ReadStored n text settings t l.refusal settings t'
    read-refused h = record { refusal = same; settings_exit = sym (granted_refused _ _ _ (λ z. h (same ∙ z))); tables_exit = tables }

    pub read_made : l.refusal ≡ 0 → (settings' : List ℕ) → settings' ≡ settings_numbers l.settings → ReadStored n text settings t 0 settings' t'
    unfolding read_answer loaded
    read_made h settings' q = record {
      refusal = sym h ∙ same;
      settings_exit = q ∙ ap settings_numbers (ap (λ (x : Loaded). x.settings) given.answer ∙ granted-zero _ _ _ (read_is ∙ sym same ∙ h)) ∙ sym (granted-zero _ _ _ (sym same ∙ h));
      tables_exit = tables;
    }

-- ---- the table writer

module _ (S : Settings) (n : ℕ) (t : Tables) (out : List ℕ) (r : ℕ) (e : r ≡ lent S (parts_named n) 0) where
  pub write_unfit : r ≢ 0 → WroteStored S n t out r out 0
  unfolding overwritten
  write_unfit h = record { refusal = same; out_exit = sym (granted_refused _ _ _ refused); count_exit = sym (granted_refused _ _ _ refused) }
    where
      same : r ≡ write_number S n t out
      same = unfold write_number in e ∙ lent_stops S _ _ (λ z. h (e ∙ z))

      refused : write_number S n t out ≢ 0
      refused z = h (same ∙ z)

  pub write-made : r ≡ 0 → (P : Parts) → P ≡ parts_of n → (w : Written) (out' : List ℕ) → Wrote S P t out w out' → WroteStored S n t out w.refusal out' w.count
  unfolding write_answer write_exit written
  write-made h P p w out' given = record {
    refusal = ap (λ (x : Written). x.refusal) answer ∙ same;
    out_exit = given.out_exit ∙ ap (λ x. write_exit S x t out) p ∙ ap (λ k. overwritten k (text_of S (parts_of n) t) out) same;
    count_exit = ap (λ (x : Written). x.count) answer ∙ ap (λ k. granted k (length (text_of S (parts_of n) t)) 0) same;
  }
    where
      same : write_refusal S (parts_of n) t (length out) ≡ write_number S n t out
      same = unfold write_number in lent_passes S _ _ (sym e ∙ h)

      answer : w ≡ write_answer S (parts_of n) t out
      answer = given.answer ∙ ap (λ x. write_answer S x t out) p
