-- What a reader of lines gives.
--
--   taken-missed, taken-found          what its answer says
--   took-missed, took-done             what it promises where lines are missing, and where all are found
--   took-place                         the place behind them
use mathlib.Core.Path.{◌≡◌, refl, sym, ap, ◌∙◌}
use Rattle.std.specs.Prelude.{Some, None}
use mathlib.Core.List.{List}
use mathlib.Core.Option.{Option, none, some, some-injective}
use Prim.Native.Nat.{ℕ, ◌+◌, ◌-◌, ◌≤◌}
use native.Mathlib.Omega.{arith}
use lib.ListN.{length, drop, take}
use lib.Seq.{drop-drop}
use lib.IntN.{ℤ}
use Rattle.text_format.specs.Text.{Spot}
use Rattle.text_format.specs.Lines.{read_values}
use Rattle.text_values.specs.Parts.{taken_answer, Took}
use Rattle.text_lines.proofs.Counts.{suffix-place, suffix_back}
use Rattle.text_lines.proofs.Follow.{values-lines}

pub taken-missed : (text : List ℕ) (o : Option (List ℤ × List ℕ)) → None ≡ taken_answer text o → o ≡ none
unfolding taken_answer
taken-missed text none e = refl
taken-missed text (some (vs, rest)) e = let z : ◌≡◌ {A = ℕ} 0 1 = cc in absurd (omega arith)

pub taken-found : (text : List ℕ) (o : Option (List ℤ × List ℕ)) (next : ℕ) → Some next ≡ taken_answer text o
    → (vs : List ℤ) × (rest : List ℕ) × (o ≡ some (vs, rest)) × (next ≡ length text - length rest)
unfolding taken_answer
taken-found text none next e = let z : ◌≡◌ {A = ℕ} 0 1 = cc in absurd (omega arith)
taken-found text (some (vs, rest)) next e = (vs, rest, refl, cc)

-- ---- what a reader of lines promises

module _ (text : List ℕ) (from : ℕ) (ss : List Spot) (values : List ℤ) where
  pub took-missed : read_values ss (drop from text) ≡ none → Took text from ss None values
  unfolding taken_answer
  took-missed e = record {
    answer = sym (ap (taken_answer text) e);
    stored = λ vs rest f. let z : ◌≡◌ {A = ℕ} 0 1 = cc in absurd (omega arith);
  }

  pub took-done : (n at : ℕ) → n ≡ length ss → at ≤ length text → read_values ss (drop from text) ≡ some (take n values, drop at text) → Took text from ss (Some at) values
  unfolding taken_answer
  took-done n at e h whole = record {
    answer = (λ j. Some (sym (suffix_back text at h) j)) ∙ sym (ap (taken_answer text) whole);
    stored = λ vs rest f. ap (λ m. take m values) (sym e) ∙ ap (λ r. r.0) (some-injective (take n values, drop at text) (vs, rest) (sym whole ∙ f));
  }

  -- behind the lines stands what is left of the text
  pub took-place : (vs : List ℤ) (rest : List ℕ) → read_values ss (drop from text) ≡ some (vs, rest) → drop (length text - length rest) text ≡ rest
  took-place vs rest e =
      let s = (values-lines ss (drop from text) vs rest e).ends in
      sym (suffix-place text rest (from + s.0) (s.1 ∙ drop-drop s.0 from text))
