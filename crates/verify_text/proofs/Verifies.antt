-- `verify` as a call on text, step by step.
--
--   verify-stops       a text whose settings are refused
--   verify-refused     the answer for a text that the reader refuses
--   verify_given       one that it does not: nothing is refused of its tables
--   verify-done        and the answer is whether they are accepted
--   tables_few         a text with the lines that its settings ask for has room for key and rounds
--   lent_fitting       tables of the lengths that the settings ask for
use mathlib.Core.Path.{◌≡◌, refl, sym, ap, ◌∙◌}
use mathlib.Core.Bool.{Bool, true, false}
use mathlib.Core.List.{List}
use Prim.Native.Nat.{ℕ, ◌≤◌}
use native.Mathlib.Nat as Nat
use native.Mathlib.Omega.{arith}
use Rattle.protocol.specs.declared.Settings.{Settings}
use Rattle.protocol.specs.Answers.{Loaded}
use Rattle.protocol.specs.Answers.{Verdict}
use Rattle.protocol.specs.Answers.Verdict.{Silent, Accepted as Accepts, Rejected as Rejects}
use Rattle.protocol.specs.Answers.Verified.{Accepted, Rejected, Refused}
use Rattle.protocol.specs.Basic.{choose}
use Rattle.protocol.specs.Layout.{key_cells, round_cells}
use Rattle.text_format.specs.Text.{Tables, shape, shapes, shape_size, fits, wanted, lines_of, spots_of, same_spots, settings_in, tables_in, look_refusal, look_answer}
use Rattle.text_format.specs.Promises.{Read}
use Rattle.text_format.specs.Programs.{verify_reads, tables_accepted, verify_refusal, verify_answer, checked}
use Rattle.protocol.proofs.Tests.{granted-zero, granted_refused}
use Rattle.text_parts.specs.Parts.{part_shape, lengths_of, cells_room}
use Rattle.text_parts.proofs.Exactly.{exact-fits}
use Rattle.table_reader.specs.Parts.{Lent}
use Rattle.table_reader.proofs.OnText.{look-refusal, number_is, settings_are, tables_are, settings-allowed, entries-passed, still-fitting}
use Rattle.table_writer.proofs.FewLines.{part-few}
use Rattle.verify_text.specs.Given.{Given}
use Rattle.verify_text.proofs.Checks.{Long}

by_test : (b : Bool) → record { refusal = 0; verdict = choose b Accepts Rejects } ≡ checked (choose b Accepted Rejected)
unfolding choose checked
by_test true = refl
by_test false = refl

module _ (text : List ℕ) where
  abbrev S : Settings
  S = settings_in (lines_of text)

  refused_is : (n : ℕ) → verify_refusal text ≡ n → (n ≡ 0 → ⊥) → record { refusal = n; verdict = Silent } ≡ checked (verify_answer text)
  unfolding verify_answer checked
  refused_is n e h = ap (λ k. checked (Refused k)) (sym e) ∙ ap checked (sym (granted_refused (verify_refusal text) _ _ (λ z. h (sym e ∙ z))))

  -- ---- a first look

  pub verify-stops : (r : Loaded) → r ≡ look_answer text → (r.refusal ≡ 0 → ⊥) → record { refusal = r.refusal; verdict = Silent } ≡ checked (verify_answer text)
  verify-stops r r-is h = refused_is r.refusal (unfold verify_refusal in (look-refusal text r r-is verify_reads h)) h

  -- ---- tables of their lengths

  pub tables_few : look_refusal text ≡ 0 → same_spots (spots_of (lines_of text)) (wanted S verify_reads) ≡ true → (key_cells S ≤ cells_room) × (round_cells S ≤ cells_room)
  unfolding part_shape shapes shape shape_size choose verify_reads
  tables_few e same = (part-few text verify_reads e same 1 (omega arith), part-few text verify_reads e same 4 (omega arith))

  module _ (t t' : Tables) (fit : Lent verify_reads text t) (r : Loaded) (h : Read verify_reads text t r t') where
    refusal_is : r.refusal ≡ verify_refusal text
    unfolding verify_refusal
    refusal_is = number_is text verify_reads t t' fit r h

    pub verify-refused : (r.refusal ≡ 0 → ⊥) → record { refusal = r.refusal; verdict = Silent } ≡ checked (verify_answer text)
    verify-refused n = refused_is r.refusal (sym refusal_is) n

    module _ (e : r.refusal ≡ 0) where
      -- a table keeps its length
      pub verify_given : lengths_of t' ≡ lengths_of t → Given r.settings t'
      verify_given l = record {
        settings = settings-allowed text verify_reads t t' fit r h e;
        fitting = still-fitting text verify_reads t t' fit r h e l;
        entries = entries-passed text verify_reads t t' fit r h e;
      }

      pub verify-done : (v : Verdict) → v ≡ choose (tables_accepted r.settings t') Accepts Rejects → record { refusal = 0; verdict = v } ≡ checked (verify_answer text)
      unfolding verify_answer
      verify-done v f =
          ap (λ x. record { refusal = 0; verdict = x }) (f
          ∙ (λ j. choose (tables_accepted (settings_are text verify_reads t t' fit r h e j) (tables_are text verify_reads t t' fit r h e j)) Accepts Rejects))
          ∙ by_test (tables_accepted S (tables_in (lines_of text)))
          ∙ ap checked (sym (granted-zero _ _ _ (sym refusal_is ∙ e)))

pub lent_fitting : (S : Settings) (t : Tables) → Long S t → fits S verify_reads t ≡ true
unfolding part_shape shapes shape shape_size choose verify_reads
lent_fitting S t l = exact-fits S verify_reads t (record {
  key = l.key;
  message = l.message ∙ sym (Nat.zero-mul S.degree);
  commitment = l.commitment;
  rounds = l.rounds;
  challenges = l.challenges ∙ sym (Nat.mul-one S.depth);
  last = l.last ∙ sym (Nat.one-mul S.degree);
  claims = l.claims;
})
