-- Runs of digits: what the tests on a byte say, one digit more, and why a number that is kept small decides the same.
--
--   first-.., proper-..       what the tests on the byte at a place say
--   kept r                    a run whose number is kept at most `past_limit`
--   run-digit, run_end        one digit more, and the end of a run
use mathlib.Core.Path.{◌≡◌, refl, sym, ap, ◌∙◌}
use mathlib.Core.Bool.{Bool, true, false, ◌&&◌, not, false≢true}
use mathlib.Core.List.{List, [], ◌∷◌}
use Prim.Native.Nat.{ℕ, ◌+◌, ◌-◌, ◌*◌, ◌<◌, min}
use native.Mathlib.Omega.{arith}
use borrow.Author.Tests.{eq-eqb, ne_eqb}
use lib.Dec.{eqb}
use lib.ListN.{length, get_or, drop, length-drop}
use Rattle.text_format.specs.Text.{digit, digit_first, proper_digits, digit_run}
use Rattle.text_format.proofs.NumeralLaws.{digit_run_on, digit_run-stop}
use Rattle.text_format.proofs.PlaceLaws.{digit_first-inside}
use Rattle.text_lines.specs.Digits.{past_limit}
use Rattle.text_parts.proofs.From.{from_cons}

-- ---- the byte at a place

some_first : (bs : List ℕ) → digit_first bs ≡ true → 0 < length bs
unfolding digit_first
some_first [] t = absurd (false≢true t)
some_first (b ∷ bs) t = omega arith

none_proper : (bs : List ℕ) → digit_first bs ≡ false → proper_digits bs ≡ false
unfolding digit_first proper_digits
none_proper [] t = refl
none_proper (b ∷ bs) t = ap (λ d. d && not (eqb b 48 && digit_first bs)) t

module _ (text : List ℕ) (i : ℕ) where
  pub first_place : digit_first (drop i text) ≡ true → i < length text
  first_place t = omega (arith, some_first (drop i text) t, length-drop i text)

  pub first_digit : digit_first (drop i text) ≡ true → digit (get_or text i 0) ≡ true
  first_digit t = sym (digit_first-inside text i (first_place t)) ∙ t

  pub proper_none : digit_first (drop i text) ≡ false → proper_digits (drop i text) ≡ false
  proper_none = none_proper (drop i text)

  proper_inside : digit_first (drop i text) ≡ true → proper_digits (drop i text) ≡ not (eqb (get_or text i 0) 48 && digit_first (drop (i + 1) text))
  unfolding proper_digits
  proper_inside t = ap proper_digits (from_cons text i 0 (first_place t)) ∙ ap (λ d. d && not (eqb (get_or text i 0) 48 && digit_first (drop (i + 1) text))) (first_digit t)

  pub proper_large : digit_first (drop i text) ≡ true → (get_or text i 0 ≡ 48 → ⊥) → proper_digits (drop i text) ≡ true
  proper_large t n = proper_inside t ∙ ap (λ z. not (z && digit_first (drop (i + 1) text))) (ne_eqb _ _ n)

  pub proper_zero : digit_first (drop i text) ≡ true → get_or text i 0 ≡ 48 → proper_digits (drop i text) ≡ not (digit_first (drop (i + 1) text))
  proper_zero t e = proper_inside t ∙ ap (λ z. not (z && digit_first (drop (i + 1) text))) (eq-eqb _ _ e)

-- ---- the number of a run

-- a run whose number is kept at most `past_limit`
abbrev pub kept : ℕ × List ℕ → ℕ × List ℕ
kept r = (min r.0 past_limit, r.1)

-- a run of one byte more, by the test on that byte
abbrev onward : ℕ → ℕ → List ℕ → Bool → ℕ × List ℕ
onward n b bs d = elim d as (λ _. ℕ × List ℕ) [ true ↦ digit_run (n * 10 + (b - 48)) bs | false ↦ (n, b ∷ bs) ]

-- numbers that are kept the same stay so with every digit more
kept_next : (n m d : ℕ) → min n past_limit ≡ min m past_limit → min (n * 10 + d) past_limit ≡ min (m * 10 + d) past_limit
kept_next n m d e = omega arith

kept_either : (n m b : ℕ) (bs : List ℕ) → min n past_limit ≡ min m past_limit → kept (digit_run (n * 10 + (b - 48)) bs) ≡ kept (digit_run (m * 10 + (b - 48)) bs)
    → (d : Bool) → kept (onward n b bs d) ≡ kept (onward m b bs d)
kept_either n m b bs e more true = more
kept_either n m b bs e more false = λ j. (e j, b ∷ bs)

pub kept_same : (n m : ℕ) (bs : List ℕ) → min n past_limit ≡ min m past_limit → kept (digit_run n bs) ≡ kept (digit_run m bs)
unfolding digit_run
kept_same n m [] e = λ j. (e j, [])
kept_same n m (b ∷ bs) e = kept_either n m b bs e (kept_same (n * 10 + (b - 48)) (m * 10 + (b - 48)) bs (kept_next n m (b - 48) e)) (digit b)

module _ (text : List ℕ) (i n : ℕ) where
  pub run-digit : digit_first (drop i text) ≡ true → digit_run n (drop i text) ≡ digit_run (n * 10 + (get_or text i 0 - 48)) (drop (i + 1) text)
  run-digit t = ap (digit_run n) (from_cons text i 0 (first_place text i t)) ∙ digit_run_on n (get_or text i 0) (drop (i + 1) text) (first_digit text i t)

  pub run_end : digit_first (drop i text) ≡ false → digit_run n (drop i text) ≡ (n, drop i text)
  run_end = digit_run-stop n (drop i text)
