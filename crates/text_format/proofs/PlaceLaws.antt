-- Laws about readers at a place of a text: single bytes and digits there, what the number readers answer as calls, and where
-- what was read ends.
use mathlib.Core.Path.{◌≡◌, refl, sym, ◌∙◌, ap, subst}
use mathlib.Core.Bool.{Bool, true, false, true≢false}
use mathlib.Core.List.{List, ◌++◌}
use mathlib.Core.Option.{Option, none, some}
use Prim.Native.Nat.{ℕ, suc, ◌+◌, ◌*◌, ◌-◌, ◌<◌, ◌≤◌}
use native.Mathlib.Omega.{arith}
use lib.ListN.{length, get_or, drop, length-append, length-drop, drop_of_length-le}
use lib.Dec.{eqb}
use lib.Seq.{drop-append_seam, drop-drop, drop-cons}
use lib.IntN.{ℤ}
use Rattle.protocol.specs.Answers.Number.{Value, Refused}
use Rattle.text_format.specs.Text.{Line, value_limit, line_text, numeral, keep, digit, digit_run, digit_first, read_count, read_number, plain, byte, read_line, number_answer, read_number_at, read_count_at}
use Rattle.text_format.proofs.NumeralLaws.{Numbered, digit_run_on, read_number_text, plain_numbered, numeral-some}
use Rattle.text_format.proofs.LineLaws.{read_line-text, line_text-length}

-- ---- Bytes at a place

pub byte_inside : (c : ℕ) (text : List ℕ) (at : ℕ) → at < length text → byte c (drop at text) ≡ keep (eqb (get_or text at 0) c) (drop (suc at) text)
unfolding byte
byte_inside c text at h = rw (drop-cons text at 0 h)

pub byte_past : (c : ℕ) (text : List ℕ) (at : ℕ) → length text ≤ at → byte c (drop at text) ≡ none
unfolding byte
byte_past c text at h = rw (drop_of_length-le text h)

pub digit_first-inside : (text : List ℕ) (at : ℕ) → at < length text → digit_first (drop at text) ≡ digit (get_or text at 0)
unfolding digit_first
digit_first-inside text at h = rw (drop-cons text at 0 h)

pub digit_first-past : (text : List ℕ) (at : ℕ) → length text ≤ at → digit_first (drop at text) ≡ false
unfolding digit_first
digit_first-past text at h = rw (drop_of_length-le text h)

pub digit_run-inside : (n : ℕ) (text : List ℕ) (at : ℕ) → at < length text → digit (get_or text at 0) ≡ true
    → digit_run n (drop at text) ≡ digit_run (n * 10 + (get_or text at 0 - 48)) (drop (suc at) text)
digit_run-inside n text at h d = ap (digit_run n) (drop-cons text at 0 h) ∙ digit_run_on n (get_or text at 0) (drop (suc at) text) d

-- ---- Where what was read ends

-- what was read at a place, and where it ends
pub record ReadAt (text : List ℕ) (at : ℕ) (read : Option (ℤ × List ℕ)) (value : ℤ) (next : ℕ) : Type 0 where
  pub read_it : read ≡ some (value, drop next text)
  pub onward : at < next
  pub inside : next ≤ length text

-- a rest behind something at a place is what stands from its own place on
pub rest_place : (text pre rest : List ℕ) (at : ℕ) → drop at text ≡ pre ++ rest → 0 < length pre
    → (rest ≡ drop (length text - length rest) text) × (at < length text - length rest)
rest_place text pre rest at e some-pre =
    let lengths : length text - at ≡ length pre + length rest = sym (length-drop at text) ∙ ap length e ∙ length-append pre rest in
    let place : at + length pre ≡ length text - length rest = omega arith in
    (sym (drop-append_seam pre rest) ∙ ap (drop (length pre)) (sym e) ∙ drop-drop (length pre) at text ∙ ap (λ (n : ℕ). drop n text) place, omega arith)

module _ (most : ℕ) (few : most ≤ value_limit) (text : List ℕ) (at : ℕ) where
  read_at : (value : ℤ) (rest : List ℕ) → Numbered most (drop at text) value rest → ReadAt text at (some (value, rest)) value (length text - length rest)
  read_at value rest r =
      let (same, on) = rest_place text (numeral value) rest at r.split (numeral-some value) in
      record { read_it = ap (λ (l : List ℕ). some (value, l)) same; onward = on; inside = omega arith }

  answer_value : (o : Option (ℤ × List ℕ)) → ((z : ℤ) (rest : List ℕ) → o ≡ some (z, rest) → Numbered most (drop at text) z rest)
      → (value : ℤ) (next : ℕ) → number_answer text o ≡ Value value next → ReadAt text at o value next
  unfolding number_answer
  answer_value none n value next e = absurd (let x : ◌≡◌ {A = Bool} true false = cc in true≢false x)
  answer_value (some (z, rest)) n value next e =
      let same-value : z ≡ value = cc in
      let same_next : length text - length rest ≡ next = cc in
      subst
      (λ (x : ℕ). ReadAt text at (some (z, rest)) value x)
      same_next
      (subst (λ (x : ℤ). ReadAt text at (some (z, rest)) x (length text - length rest)) same-value (read_at z rest (n z rest refl)))

  answer_refused : (o : Option (ℤ × List ℕ)) (number : ℕ) → number_answer text o ≡ Refused number → (o ≡ none) × (number ≡ 2)
  unfolding number_answer
  answer_refused none number e = (refl, cc)
  answer_refused (some (z, rest)) number e = absurd (let x : ◌≡◌ {A = Bool} true false = cc in true≢false x)

  pub read_number_at_value : (value : ℤ) (next : ℕ) → read_number_at most text at ≡ Value value next → ReadAt text at (read_number most (drop at text)) value next
  unfolding read_number_at
  read_number_at_value = answer_value (read_number most (drop at text)) (read_number_text most few (drop at text))

  pub read_number_at_refused : (number : ℕ) → read_number_at most text at ≡ Refused number → (read_number most (drop at text) ≡ none) × (number ≡ 2)
  unfolding read_number_at
  read_number_at_refused = answer_refused (read_number most (drop at text))

  pub read_count_at_value : (value : ℤ) (next : ℕ) → read_count_at most text at ≡ Value value next
      → ReadAt text at (plain (read_count most (drop at text))) value next
  unfolding read_count_at
  read_count_at_value = answer_value (plain (read_count most (drop at text))) (plain_numbered most few (drop at text))

  pub read_count_at_refused : (number : ℕ) → read_count_at most text at ≡ Refused number → (plain (read_count most (drop at text)) ≡ none) × (number ≡ 2)
  unfolding read_count_at
  read_count_at_refused = answer_refused (plain (read_count most (drop at text)))

-- a line that was read at a place, too, ends where the bytes behind it begin
pub read_line-place : (text : List ℕ) (at : ℕ) (l : Line) (rest : List ℕ) → read_line (drop at text) ≡ some (l, rest)
    → (rest ≡ drop (length text - length rest) text) × (at < length text - length rest)
read_line-place text at l rest e = rest_place text (line_text l) rest at (read_line-text (drop at text) l rest e).split (line_text-length l)
