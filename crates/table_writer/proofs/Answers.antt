-- The writer's answer and its output slice, by the tests in their order.
--
--   long          a text that is too long
--   cramped       an output slice that is too short
--   done          nothing refused
--   stopped       tables that are refused before their text
--   passed        what holds of tables that are not
--   wrote         then the text and the output slice decide
use mathlib.Core.Path.{◌≡◌, refl, sym, ap, subst, ◌∙◌}
use mathlib.Core.Bool.{Bool, true, ◌&&◌}
use mathlib.Core.List.{List, [], ◌∷◌, ◌++◌}
use Prim.Native.Nat.{ℕ, zero, suc, ◌<◌, ◌≤◌}
use borrow.Author.Tests.{le-leb, lt-leb}
use lib.ListN.{length, drop}
use Rattle.protocol.specs.declared.Settings.{Settings}
use Rattle.protocol.specs.declared.Parts.{Parts}
use Rattle.protocol.specs.Answers.{Written}
use Rattle.protocol.specs.Basic.{all, within, granted}
use Rattle.protocol.specs.Settings.{all_below}
use Rattle.text_format.specs.Text.{Tables, text_limit, narrow_limit, text_of, entries_refusal, output_refusal, write_refusal, written, overwritten, write_answer, write_exit}
use Rattle.text_format.specs.Promises.{Wrote}
use Rattle.protocol.proofs.Tests.{first_nothing, first_zero, unless-zero}
use Rattle.protocol.proofs.Refusals.{first_only, first_fails, first_holds, front-stops, front-passes}
use Rattle.table_writer.specs.Tables.{tables_refusal, Writable, Output}

abbrev answer : ℕ → ℕ → Written
answer number count = record { refusal = number; count = count }

-- ---- the text and the output slice

module _ (text out : List ℕ) where
  refused : (n : ℕ) → output_refusal text (length out) ≡ suc n → Output text out (answer (suc n) 0) out
  unfolding written overwritten granted
  refused n e = record { answer = sym (ap (λ k. written k text) e); out_exit = sym (ap (λ k. overwritten k text out) e) }

  pub long : (n : ℕ) → n ≡ 1 → text_limit < length text → Output text out (answer n 0) out
  unfolding output_refusal
  long n is h = subst (λ k. Output text out (answer k 0) out) (sym is) (refused 0 (first_fails 0 _ _ (lt-leb _ _ h)))

  module _ (short : length text ≤ text_limit) where
    pub cramped : (n : ℕ) → n ≡ 7 → length out < length text → Output text out (answer n 0) out
    unfolding output_refusal
    cramped n is h = subst (λ k. Output text out (answer k 0) out) (sym is) (refused 6 (first_holds 1 _ _ (le-leb _ _ short) ∙ first_fails 6 _ _ (lt-leb _ _ h)))

    pub done : (n : ℕ) (out' : List ℕ) → n ≡ length text → length text ≤ length out → out' ≡ text ++ drop (length text) out → Output text out (answer 0 n) out'
    unfolding output_refusal written overwritten granted
    done n out' long h is =
        let e : output_refusal text (length out) ≡ 0 = first_holds 1 _ _ (le-leb _ _ short) ∙ first_holds 7 _ _ (le-leb _ _ h) ∙ first_nothing in
        record { answer = ap (answer 0) long ∙ sym (ap (λ k. written k text) e); out_exit = is ∙ sym (ap (λ k. overwritten k text out) e) }

-- ---- the refusals before it

residues-passed : (S : Settings) (last_fits : Bool) (t : Tables) → entries_refusal S last_fits t ≡ 0
    → all_below S t.key && (all_below S t.commitment && (all_below S t.rounds && all_below S t.claims)) ≡ true
unfolding entries_refusal
residues-passed S last_fits t h = unless-zero 7 _ (first_zero _ _ h).0

module _ (S : Settings) (P : Parts) (t : Tables) (out : List ℕ) where
  pub stopped : (n : ℕ) → n ≡ tables_refusal S P t → (n ≡ 0 → ⊥) → Wrote S P t out (answer n 0) out
  unfolding write_answer write_exit written overwritten granted
  stopped zero e ne = absurd (ne refl)
  stopped (suc n) e ne =
      let refusal : write_refusal S P t (length out) ≡ suc n = unfold write_refusal tables_refusal in (front-stops (_ ∷ _ ∷ _ ∷ []) _ (λ z. ne (e ∙ z)) ∙ sym e) in
      record { answer = sym (ap (λ k. written k (text_of S P t)) refusal); out_exit = sym (ap (λ k. overwritten k (text_of S P t) out) refusal) }

  module _ (fine : tables_refusal S P t ≡ 0) where
    pub passed : Writable S P t
    unfolding tables_refusal
    passed =
        let (lengths, more) = first_zero _ _ (first_zero _ _ fine).1 in
        let entries : entries_refusal S (all (within narrow_limit) t.last) t ≡ 0 = (first_zero _ _ more).0 in
        record {
          settings = (first_zero _ _ fine).0;
          residues = residues-passed S _ t entries;
          fitting = unless-zero 6 _ lengths;
        }

    text_decides : write_refusal S P t (length out) ≡ output_refusal (text_of S P t) (length out)
    unfolding write_refusal tables_refusal
    text_decides = front-passes (_ ∷ _ ∷ _ ∷ []) _ fine ∙ first_only _

    pub wrote : (r : Written) (out' : List ℕ) → Output (text_of S P t) out r out' → Wrote S P t out r out'
    unfolding write_answer write_exit
    wrote r out' o = record {
      answer = o.answer ∙ ap (λ n. written n (text_of S P t)) (sym text_decides);
      out_exit = o.out_exit ∙ ap (λ n. overwritten n (text_of S P t) out) (sym text_decides);
    }
