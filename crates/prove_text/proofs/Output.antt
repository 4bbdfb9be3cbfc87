-- What `prove` prints, from its answer with a slice that has room for the longest text.
--
--   prints-refusal   the line of a refusal
--   listing-within   the bytes that were written lie within the slice
--   prints-listing   and they are what is printed where nothing is refused
use mathlib.Core.Path.{◌≡◌, sym, ap, ◌∙◌}
use mathlib.Core.List.{List, ◌++◌}
use Prim.Native.Nat.{ℕ, ◌≤◌}
use native.Mathlib.Omega.{arith}
use lib.ListN.{length, take, drop, length-append}
use lib.Seq.{take-append_seam}
use Rattle.protocol.specs.Answers.{Written}
use Rattle.text_format.specs.Text.{text_limit, written, overwritten}
use Rattle.text_format.specs.Programs.{prove_text, prove_refusal, prove_answer, prove_exit, refused_line, prove_output}
use Rattle.text_format.specs.Promises.{Proved}
use Rattle.protocol.proofs.Tests.{granted-zero, granted_refused}

module _ (text out out' : List ℕ) (r : Written) (p : Proved text out r out') (long : length out ≡ text_limit) where
  number_is : r.refusal ≡ prove_refusal text text_limit
  unfolding prove_answer written
  number_is = ap (λ (w : Written). w.refusal) p.answer ∙ ap (prove_refusal text) long

  pub prints-refusal : (r.refusal ≡ 0 → ⊥) → refused_line r.refusal ≡ prove_output text
  unfolding prove_output
  prints-refusal h = ap refused_line number_is ∙ sym (granted_refused (prove_refusal text text_limit) _ _ (λ z. h (number_is ∙ z)))

  module _ (e : r.refusal ≡ 0) where
    fine : prove_refusal text (length out) ≡ 0
    fine = ap (prove_refusal text) long ∙ sym number_is ∙ e

    counted : r.count ≡ length (prove_text text)
    unfolding prove_answer written
    counted = ap (λ (w : Written). w.count) p.answer ∙ granted-zero _ _ _ fine

    fronted : out' ≡ prove_text text ++ drop (length (prove_text text)) out
    unfolding prove_exit overwritten
    fronted = p.out_exit ∙ granted-zero _ _ _ fine

    pub listing-within : r.count ≤ length out'
    listing-within = omega (arith, counted, ap length fronted, length-append (prove_text text) (drop (length (prove_text text)) out))

    pub prints-listing : take r.count out' ≡ prove_output text
    unfolding prove_output
    prints-listing = (λ j. take (counted j) (fronted j)) ∙ take-append_seam (prove_text text) _ ∙ sym (granted-zero (prove_refusal text text_limit) _ _ (sym number_is ∙ e))
