-- Numbers read from a place of a text on: when one is read, where it ends, and what an answer says of it.
--
--   Suffix rest bs               the bytes rest end the bytes bs
--   Found read text at a next    at the place `at` of the text, `read` gives a and goes on at the place next
--   keep_some, keep_yes, keep_no what `keep` gives
--   count-..                     `read_count` by its tests, and what it says when it has read
--   number-..                    the same for `read_number`
--   answer_value, answer_refused a number reader's answer, and what was read
--   counted, numbered            what an answer with a value says; uncounted, unnumbered: a refusal
--   ..-both                      an answer, and its number and values
use mathlib.Core.Path.{◌≡◌, refl, sym, ap, subst, ◌∙◌}
use mathlib.Core.Bool.{Bool, true, false, ◌&&◌, not, false≢true}
use mathlib.Core.List.{List, [], ◌∷◌}
use mathlib.Core.Option.{Option, none, some, bind}
use Prim.Native.Nat.{ℕ, suc, ◌+◌, ◌-◌, ◌≤◌, ◌<◌, ◌*◌}
use native.Mathlib.Omega.{arith}
use native.Mathlib.Decide.{dec_le}
use borrow.Author.Tests.{le-leb, lt-leb, leb-true, eq-eqb, ne_eqb}
use lib.Dec.{leb, eqb}
use lib.ListN.{length, get_or, drop, length-drop, drop_of_length-le}
use lib.Seq.{drop-drop}
use lib.IntN.{ℤ, pos, neg_ℤ}
use Rattle.protocol.specs.Answers.{Number}
use Rattle.protocol.specs.Answers.Number.{Value, Refused}
use Rattle.text_format.specs.Text.{minus, keep, digit, digit_first, digit_run, proper_digits, read_count, plain, negative, read_number, number_answer, read_number_at, read_count_at, reading}
use Rattle.text_format.specs.Lines.{given_number}
use Rattle.text_format.proofs.Answers.{number_given}
use Rattle.protocol.proofs.Tests.{and_split, and_intro}
use Rattle.text_format.proofs.NumeralLaws.{keep_some, digit_run_on}
use Rattle.text_parts.proofs.From.{from_cons}

-- ---- suffixes

abbrev pub Suffix : List ℕ → List ℕ → Type 0
Suffix rest bs = (k : ℕ) × (rest ≡ drop k bs)

pub suffix-self : (bs : List ℕ) → Suffix bs bs
suffix-self bs = (0, refl)

pub suffix_more : {rest bs : List ℕ} (b : ℕ) → Suffix rest bs → Suffix rest (b ∷ bs)
suffix_more b s = (suc s.0, s.1)

pub suffix_of : {a b c : List ℕ} → Suffix a b → Suffix b c → Suffix a c
suffix_of {a} {b} {c} s t = (t.0 + s.0, s.1 ∙ ap (drop s.0) t.1 ∙ drop-drop s.0 t.0 c)

pub suffix-length : {rest bs : List ℕ} → Suffix rest bs → length rest ≤ length bs
suffix-length {rest} {bs} s = omega (arith, ap length s.1, length-drop s.0 bs)

-- a suffix begins where as many bytes are left as it has
module _ (text rest : List ℕ) (n : ℕ) (e : rest ≡ drop n text) where
  long : length rest ≡ length text - n
  long = ap length e ∙ length-drop n text

  pub suffix-place : rest ≡ drop (length text - length rest) text
  suffix-place = elim (dec_le n (length text)) [
    | yes h ↦ let back : n ≡ length text - length rest = omega (arith, long) in e ∙ ap (λ k. drop k text) back
    | no h ↦ e ∙ drop_of_length-le text {i = n} (omega arith) ∙ sym (drop_of_length-le text {i = length text - length rest} (omega (arith, long)))
  ]

pub suffix_back : (text : List ℕ) (next : ℕ) → next ≤ length text → length text - length (drop next text) ≡ next
suffix_back text next h = omega (arith, length-drop next text)

-- ---- what is found at a place

module _ {ℓ} {A : Type ℓ} where
  pub record Found (read : List ℕ → Option (A × List ℕ)) (text : List ℕ) (at : ℕ) (a : A) (next : ℕ) : Type ℓ where
    pub is : read (drop at text) ≡ some (a, drop next text)
    pub within : next ≤ length text

  pub found : (read : List ℕ → Option (A × List ℕ)) (text : List ℕ) (at : ℕ) (a : A) (rest : List ℕ)
      → Suffix rest (drop at text) → read (drop at text) ≡ some (a, rest) → Found read text at a (length text - length rest)
  found read text at a rest s e = record {
    is = e ∙ (λ j. some (a, suffix-place text rest (at + s.0) (s.1 ∙ drop-drop s.0 at text) j));
    within = omega arith;
  }

  pub keep_yes : (b : Bool) (x : A) → b ≡ true → keep b x ≡ some x
  unfolding keep
  keep_yes true x t = refl
  keep_yes false x t = absurd (false≢true t)

  pub keep_no : (b : Bool) (x : A) → b ≡ false → keep b x ≡ none
  unfolding keep
  keep_no true x t = absurd (false≢true (sym t))
  keep_no false x t = refl

-- ---- digits

run-either : (n b : ℕ) (bs : List ℕ) → Suffix (digit_run (n * 10 + (b - 48)) bs).1 bs
    → (d : Bool) → Suffix (elim d as (λ _. ℕ × List ℕ) [ true ↦ digit_run (n * 10 + (b - 48)) bs | false ↦ (n, b ∷ bs) ]).1 (b ∷ bs)
run-either n b bs s true = suffix_more b s
run-either n b bs s false = suffix-self (b ∷ bs)

run-suffix : (n : ℕ) (bs : List ℕ) → Suffix (digit_run n bs).1 bs
unfolding digit_run
run-suffix n [] = suffix-self []
run-suffix n (b ∷ bs) = run-either n b bs (run-suffix (n * 10 + (b - 48)) bs) (digit b)

run-shorter : (bs : List ℕ) → proper_digits bs ≡ true → length (digit_run 0 bs).1 + 1 ≤ length bs
unfolding proper_digits
run-shorter [] t = absurd (false≢true t)
run-shorter (b ∷ bs) t =
    let one : digit_run 0 (b ∷ bs) ≡ digit_run (0 * 10 + (b - 48)) bs = digit_run_on 0 b bs (and_split {a = digit b} {b = not (eqb b 48 && digit_first bs)} t).0 in
    omega (arith, ap (λ r. length r.1) one, suffix-length (run-suffix (0 * 10 + (b - 48)) bs))

-- ---- numbers without a sign

module _ (most : ℕ) (bs : List ℕ) where
  pub count_improper : proper_digits bs ≡ false → read_count most bs ≡ none
  unfolding read_count
  count_improper t = keep_no _ _ (ap (λ p. p && leb (digit_run 0 bs).0 most) t)

  pub count_large : proper_digits bs ≡ true → most < (digit_run 0 bs).0 → read_count most bs ≡ none
  unfolding read_count
  count_large t h = keep_no _ _ (ap (λ p. p && leb (digit_run 0 bs).0 most) t ∙ lt-leb _ _ h)

  pub count-read : proper_digits bs ≡ true → (digit_run 0 bs).0 ≤ most → read_count most bs ≡ some (digit_run 0 bs)
  unfolding read_count
  count-read t h = keep_yes _ _ (and_intro t (le-leb _ _ h))

  module _ (n : ℕ) (rest : List ℕ) (e : read_count most bs ≡ some (n, rest)) where
    whole : (proper_digits bs && leb (digit_run 0 bs).0 most ≡ true) × (digit_run 0 bs ≡ (n, rest))
    unfolding read_count
    whole = keep_some _ (digit_run 0 bs) (n, rest) e

    pub count_small : n ≤ most
    count_small = rw whole.1 at (leb-true (digit_run 0 bs).0 most (and_split {a = proper_digits bs} {b = leb (digit_run 0 bs).0 most} whole.0).1)

    pub count-suffix : Suffix rest bs
    count-suffix = subst (λ r. Suffix r.1 bs) whole.1 (run-suffix 0 bs)

    pub count-shorter : length rest + 1 ≤ length bs
    count-shorter = subst (λ r. length r.1 + 1 ≤ length bs) whole.1 (run-shorter bs (and_split {a = proper_digits bs} {b = leb (digit_run 0 bs).0 most} whole.0).0)

-- ---- answers

module _ (text : List ℕ) where
  pub answer_value : (o : Option (ℤ × List ℕ)) (v : ℤ) (next : ℕ) → number_answer text o ≡ Value v next
      → (rest : List ℕ) × (o ≡ some (v, rest)) × (next ≡ length text - length rest)
  unfolding number_answer
  answer_value none v next e = let z : ◌≡◌ {A = ℕ} 0 1 = cc in absurd (omega arith)
  answer_value (some (w, rest)) v next e = let same : w ≡ v = cc in (rest, (λ j. some (same j, rest)), cc)

  pub answer_refused : (o : Option (ℤ × List ℕ)) (number : ℕ) → number_answer text o ≡ Refused number → o ≡ none
  unfolding number_answer
  answer_refused none number e = refl
  answer_refused (some (w, rest)) number e = let z : ◌≡◌ {A = ℕ} 0 1 = cc in absurd (omega arith)

pub plain_value : (o : Option (ℕ × List ℕ)) (v : ℤ) (rest : List ℕ) → plain o ≡ some (v, rest) → (n : ℕ) × (v ≡ pos n) × (o ≡ some (n, rest))
unfolding plain bind
plain_value none v rest e = let z : ◌≡◌ {A = ℕ} 0 1 = cc in absurd (omega arith)
plain_value (some (n, behind)) v rest e =
    let same : ◌≡◌ {A = ℤ × List ℕ} (pos n, behind) (v, rest) = cc in
    (n, sym (ap (λ r. r.0) same), (λ j. some (n, (same j).1)))

pub plain-none : (o : Option (ℕ × List ℕ)) → plain o ≡ none → o ≡ none
unfolding plain bind
plain-none none e = refl
plain-none (some (n, behind)) e = let z : ◌≡◌ {A = ℕ} 0 1 = cc in absurd (omega arith)

-- ---- a minus

pub negative-number : (o : Option (ℕ × List ℕ)) (n : ℕ) (rest : List ℕ) → o ≡ some (n, rest) → (n ≡ 0 → ⊥) → negative o ≡ some (neg_ℤ (pos n), rest)
unfolding negative bind
negative-number o n rest e p = ap negative e ∙ keep_yes (not (eqb n 0)) (neg_ℤ (pos n), rest) (ap not (ne_eqb n 0 p))

pub negative-zero : (o : Option (ℕ × List ℕ)) (n : ℕ) (rest : List ℕ) → o ≡ some (n, rest) → n ≡ 0 → negative o ≡ none
unfolding negative bind
negative-zero o n rest e p = ap negative e ∙ keep_no (not (eqb n 0)) (neg_ℤ (pos n), rest) (ap not (eq-eqb n 0 p))

pub negative-none : (o : Option (ℕ × List ℕ)) → o ≡ none → negative o ≡ none
unfolding negative bind
negative-none o e = ap negative e

-- ---- what an answer says

-- of a reader of numbers without a sign
module _ (read : List ℕ → Option (ℕ × List ℕ)) (ends : (bs : List ℕ) (n : ℕ) (rest : List ℕ) → read bs ≡ some (n, rest) → Suffix rest bs) (text : List ℕ) (at : ℕ) where
  pub plain-found : (v : ℤ) (next : ℕ) → number_answer text (plain (read (drop at text))) ≡ Value v next → (n : ℕ) × (v ≡ pos n) × Found read text at n next
  plain-found v next e =
      let (rest, o, p) = answer_value text (plain (read (drop at text))) v next e in
      let (n, w, q) = plain_value (read (drop at text)) v rest o in
      (n, w, subst (Found read text at n) (sym p) (found read text at n rest (ends (drop at text) n rest q) q))

  pub plain-missed : (number : ℕ) → number_answer text (plain (read (drop at text))) ≡ Refused number → read (drop at text) ≡ none
  plain-missed number e = plain-none _ (answer_refused text _ number e)

-- a number whose first byte is b, by the test whether b is a minus
abbrev by_sign : ℕ → ℕ → List ℕ → Bool → Option (ℤ × List ℕ)
by_sign most b bs m = elim m as (λ _. Option (ℤ × List ℕ)) [ true ↦ negative (read_count most bs) | false ↦ plain (read_count most (b ∷ bs)) ]

module _ (most : ℕ) (text : List ℕ) (at : ℕ) where
  pub counted : (v : ℤ) (next : ℕ) → read_count_at most text at ≡ Value v next → (n : ℕ) × (v ≡ pos n) × Found (read_count most) text at n next
  unfolding read_count_at
  counted = plain-found (read_count most) (count-suffix most) text at

  pub uncounted : (number : ℕ) → read_count_at most text at ≡ Refused number → read_count most (drop at text) ≡ none
  unfolding read_count_at
  uncounted = plain-missed (read_count most) (count-suffix most) text at

  -- a number with a sign, by its first byte
  pub number-outside : length text ≤ at → read_number most (drop at text) ≡ none
  unfolding read_number
  number-outside h = ap (read_number most) (drop_of_length-le text h)

  number-inside : at < length text → read_number most (drop at text) ≡ by_sign most (get_or text at 0) (drop (at + 1) text) (eqb (get_or text at 0) minus)
  unfolding read_number
  number-inside h = ap (read_number most) (from_cons text at 0 h)

  pub number-plain : at < length text → (get_or text at 0 ≡ minus → ⊥) → read_number most (drop at text) ≡ plain (read_count most (drop at text))
  number-plain h n =
      number-inside h ∙ ap (by_sign most (get_or text at 0) (drop (at + 1) text)) (ne_eqb _ _ n) ∙ ap (λ bs. plain (read_count most bs)) (sym (from_cons text at 0 h))

  pub number-minus : at < length text → get_or text at 0 ≡ minus → read_number most (drop at text) ≡ negative (read_count most (drop (at + 1) text))
  number-minus h e = number-inside h ∙ ap (by_sign most (get_or text at 0) (drop (at + 1) text)) (eq-eqb _ _ e)

-- what stands behind a number with a sign ends the text too
negative-value : (o : Option (ℕ × List ℕ)) (v : ℤ) (rest : List ℕ) → negative o ≡ some (v, rest) → (n : ℕ) × (o ≡ some (n, rest))
unfolding negative bind
negative-value none v rest e = let z : ◌≡◌ {A = ℕ} 0 1 = cc in absurd (omega arith)
negative-value (some (n, behind)) v rest e =
    let same : ◌≡◌ {A = ℤ × List ℕ} (neg_ℤ (pos n), behind) (v, rest) = (keep_some (not (eqb n 0)) _ _ e).1 in
    (n, (λ j. some (n, (same j).1)))

either-suffix : (most b : ℕ) (bs : List ℕ) (v : ℤ) (rest : List ℕ) (m : Bool) → by_sign most b bs m ≡ some (v, rest) → Suffix rest (b ∷ bs) × (length rest + 1 ≤ length (b ∷ bs))
either-suffix most b bs v rest true e =
    let (n, q) = negative-value (read_count most bs) v rest e in
    (suffix_more b (count-suffix most bs n rest q), omega (arith, count-shorter most bs n rest q))
either-suffix most b bs v rest false e =
    let (n, w, q) = plain_value (read_count most (b ∷ bs)) v rest e in
    (count-suffix most (b ∷ bs) n rest q, count-shorter most (b ∷ bs) n rest q)

number_ends : (most : ℕ) (bs : List ℕ) (v : ℤ) (rest : List ℕ) → read_number most bs ≡ some (v, rest) → Suffix rest bs × (length rest + 1 ≤ length bs)
unfolding read_number
number_ends most [] v rest e = let z : ◌≡◌ {A = ℕ} 0 1 = cc in absurd (omega arith)
number_ends most (b ∷ bs) v rest e = either-suffix most b bs v rest (eqb b minus) e

pub number-suffix : (most : ℕ) (bs : List ℕ) (v : ℤ) (rest : List ℕ) → read_number most bs ≡ some (v, rest) → Suffix rest bs
number-suffix most bs v rest e = (number_ends most bs v rest e).0

pub number-shorter : (most : ℕ) (bs : List ℕ) (v : ℤ) (rest : List ℕ) → read_number most bs ≡ some (v, rest) → length rest + 1 ≤ length bs
number-shorter most bs v rest e = (number_ends most bs v rest e).1

module _ (most : ℕ) (text : List ℕ) (at : ℕ) where
  pub numbered : (v : ℤ) (next : ℕ) → read_number_at most text at ≡ Value v next → Found (read_number most) text at v next
  unfolding read_number_at
  numbered v next e =
      let (rest, o, p) = answer_value text (read_number most (drop at text)) v next e in
      subst (Found (read_number most) text at v) (sym p) (found (read_number most) text at v rest (number-suffix most (drop at text) v rest o) o)

  pub unnumbered : (number : ℕ) → read_number_at most text at ≡ Refused number → read_number most (drop at text) ≡ none
  unfolding read_number_at
  unnumbered number e = answer_refused text _ number e

-- ---- an answer, and its number and values

pub answer_both : (text : List ℕ) (o : Option (ℤ × List ℕ)) (r : Number) → r ≡ number_answer text o → (r ≡ number_answer text o) × (reading r ≡ given_number text o)
answer_both text o r e = (e, ap reading e ∙ number_given text o)

module _ (most : ℕ) (text : List ℕ) (at : ℕ) (r : Number) where
  pub count_both : r ≡ read_count_at most text at → (r ≡ read_count_at most text at) × (reading r ≡ given_number text (plain (read_count most (drop at text))))
  unfolding read_count_at
  count_both e = answer_both text (plain (read_count most (drop at text))) r e

  pub number_both : r ≡ read_number_at most text at → (r ≡ read_number_at most text at) × (reading r ≡ given_number text (read_number most (drop at text)))
  unfolding read_number_at
  number_both e = answer_both text (read_number most (drop at text)) r e
