-- Laws about numbers as text: a number that is read is written with the same bytes. Shared by the round trip of texts and by whoever reads or writes a number;
-- the laws of digits, and that a number that is written is read back, are passed on.
use mathlib.Core.Path.{◌≡◌, refl, sym, ◌∙◌, ap, subst}
use mathlib.Core.Bool.{Bool, true, false, ◌&&◌, not, and-true, and-eq-true_iff, true≢false}
use mathlib.Core.List.{List, [], ◌∷◌, ◌++◌}
use mathlib.Core.Option.{Option, none, some, bind, none-ne-some}
use Prim.Native.Nat.{ℕ, zero, suc, ◌+◌, ◌*◌, ◌-◌, ◌/◌, ◌%◌, ◌^◌, ◌<◌, ◌≤◌}
use native.Mathlib.Omega.{arith}
use native.Mathlib.Decide.{dec_lt}
use native.Mathlib.Nat.{le_trans, mod-lt, div-div-eq-div-mul}
use native.Mathlib.Nat.{pow-suc, div-one, le-div_iff_mul-le, div-lt_iff_lt-mul, div-le_self}
use lib.Dec.{leb, eqb}
use lib.IntN.{ℤ, pos, negsuc, nat_abs}
use borrow.Author.Tests.{leb-true, eqb-true, eqb-false, not-true}
use Rattle.text_format.specs.Text.{value_limit, low_digits, decimal, numeral, keep, digit, digit_run, digit_first, proper_digits, read_count}
use Rattle.text_format.specs.Text.{plain, negative, read_number}
use Rattle.text_format.proofs.DigitLaws.{digit-of, ten_pos, ten_le, low_digits-cons, Digits}
use Rattle.text_format.proofs.NumeralWritten.{few-digits, read_number-plain}
pub use Rattle.text_format.proofs.DigitLaws.{low_digits-length, decimal-length, digit_run_on, digit_run-stop, digits-count, digit-bounds}
pub use Rattle.text_format.proofs.NumeralWritten.{read_number-numeral, read_count-decimal, numeral-some}

-- the digits at the front of bs, behind digits that stand for m: they stand for v, and rest is behind them
pub record Run (m : ℕ) (bs : List ℕ) (v : ℕ) (rest : List ℕ) : Type 0 where
  pub count : ℕ
  pub split : bs ≡ low_digits count v ++ rest
  pub before : v / 10 ^ count ≡ m
  pub stop : digit_first rest ≡ false

run_none : (m : ℕ) (rest : List ℕ) → digit_first rest ≡ false → Run m rest m rest
run_none m rest h = record { count = 0; split = unfold low_digits in refl; before = div-one m; stop = h }

run-cons : (m b : ℕ) (bs : List ℕ) (v : ℕ) (rest : List ℕ) → digit b ≡ true → Run (m * 10 + (b - 48)) bs v rest → Run m (b ∷ bs) v rest
run-cons m b bs v rest h r =
    let k = r.count in
    let (low, high) = digit-bounds b h in
    record {
      count = suc k;
      split = ap (λ (l : List ℕ). b ∷ l) r.split
          ∙ ap (λ (x : ℕ). x ∷ (low_digits k v ++ rest)) (omega (arith, r.before))
          ∙ ap (λ (l : List ℕ). l ++ rest) (sym (low_digits-cons k v));
      before = ap (λ (x : ℕ). v / x) (pow-suc 10 k) ∙ sym (div-div-eq-div-mul v (10 ^ k) 10) ∙ omega (arith, r.before);
      stop = r.stop;
    }

pub digit_run-run : (m : ℕ) (bs : List ℕ) → Run m bs (digit_run m bs).0 (digit_run m bs).1
digit_run-run m [] = unfold digit_run in (run_none m [] (unfold digit_first in refl))
digit_run-run m (b ∷ bs) = go (digit b) refl (digit_run-run (m * 10 + (b - 48)) bs)
  where
    go : (t : Bool) → digit b ≡ t → Run (m * 10 + (b - 48)) bs (digit_run (m * 10 + (b - 48)) bs).0 (digit_run (m * 10 + (b - 48)) bs).1
        → Run m (b ∷ bs) (digit_run m (b ∷ bs)).0 (digit_run m (b ∷ bs)).1
    go true h r = rw (digit_run_on m b bs h) (run-cons m b bs _ _ h r)
    go false h r = rw (digit_run-stop m (b ∷ bs) (unfold digit_first in h)) (run_none m (b ∷ bs) (unfold digit_first in h))

-- digits never make a number smaller
pub digit_run-grows : (n : ℕ) (bs : List ℕ) → n ≤ (digit_run n bs).0
digit_run-grows n bs = let r = digit_run-run n bs in omega (arith, r.before, div-le_self (digit_run n bs).0 (10 ^ r.count))

pub keep_some {ℓ} : {A : Type ℓ} (t : Bool) (a c : A) → keep t a ≡ some c → (t ≡ true) × (a ≡ c)
unfolding keep
keep_some true a c e = (refl, cc)
keep_some false a c e = absurd (none-ne-some c e)

pub proper_first : (bs : List ℕ) → proper_digits bs ≡ true → digit_first bs ≡ true
unfolding proper_digits digit_first
proper_first [] h = h
proper_first (b ∷ bs) h = ((and-eq-true_iff (digit b) _).0 h).0

-- a leading zero is followed by no digit
pub proper_lead : (b : ℕ) (bs : List ℕ) → proper_digits (b ∷ bs) ≡ true → digit_first bs ≡ true → eqb b 48 ≡ false
unfolding proper_digits
proper_lead b bs h d = sym (and-true (eqb b 48)) ∙ ap (λ (t : Bool). eqb b 48 && t) (sym d) ∙ not-true _ ((and-eq-true_iff (digit b) _).0 h).1

digit_first-low : (k n : ℕ) (rest : List ℕ) → digit_first (low_digits (suc k) n ++ rest) ≡ true
digit_first-low k n rest = rw (low_digits-cons k n) (unfold digit_first in (digit-of (n / 10 ^ k % 10) (mod-lt (n / 10 ^ k) (omega arith))))

-- of two proper digits or more the first is not 0
lead : (n j : ℕ) (rest : List ℕ) → proper_digits (low_digits (suc (suc j)) n ++ rest) ≡ true → 10 ^ suc j ≤ n
lead n j rest p =
    let q : proper_digits ((48 + n / 10 ^ suc j % 10) ∷ (low_digits (suc j) n ++ rest)) ≡ true = rw (low_digits-cons (suc j) n) at p in
    let ne = eqb-false (48 + n / 10 ^ suc j % 10) 48 (proper_lead _ _ q (digit_first-low j n rest)) in
    let one : 1 ≤ n / 10 ^ suc j = elim (dec_lt 0 (n / 10 ^ suc j)) [ yes l ↦ l | no l ↦ absurd (ne (omega arith)) ] in
    omega (arith, (le-div_iff_mul-le (ten_pos (suc j))).0 one)

-- digits with no leading zero are the digits of their number
proper-digits : (n k : ℕ) (rest : List ℕ) → proper_digits (low_digits k n ++ rest) ≡ true → digit_first rest ≡ false → n < 10 ^ k
    → n ≤ value_limit → Digits n k
proper-digits n zero rest p stop under limit =
    let q : digit_first rest ≡ true = proper_first rest (unfold low_digits in p) in
    absurd (true≢false (sym q ∙ stop))
proper-digits n (suc zero) rest p stop under limit = record { some_digit = omega arith; at_most = omega arith; under = under; over = λ i l. absurd (omega arith) }
proper-digits n (suc (suc j)) rest p stop under limit =
    let l₀ : 10 ^ suc j ≤ n = lead n j rest p in
    record {
      some_digit = omega arith;
      at_most = elim (dec_lt (suc j) 19) [ yes l ↦ l | no l ↦ absurd (omega (arith, few-digits n limit, ten_le 19 (suc j) (omega arith))) ];
      under = under;
      over = λ i l. le_trans (ten_le (suc i) (suc j) (omega arith)) l₀;
    }

pub record Counted (most : ℕ) (bs : List ℕ) (n : ℕ) (rest : List ℕ) : Type 0 where
  pub limit : n ≤ most
  pub split : bs ≡ decimal n ++ rest
  pub stop : digit_first rest ≡ false

pub record Numbered (most : ℕ) (bs : List ℕ) (z : ℤ) (rest : List ℕ) : Type 0 where
  pub limit : nat_abs z ≤ most
  pub split : bs ≡ numeral z ++ rest
  pub stop : digit_first rest ≡ false

module _ (most : ℕ) (few : most ≤ value_limit) where
  counted : (bs : List ℕ) (n : ℕ) (rest : List ℕ) → proper_digits bs ≡ true → n ≤ most → Run 0 bs n rest → Counted most bs n rest
  unfolding decimal
  counted bs n rest p limit r =
      let k = r.count in
      let under : n < 10 ^ k = omega (arith, (div-lt_iff_lt-mul {k = 10 ^ k} {x = n} {y = 1} (ten_pos k)).0 (omega (arith, r.before))) in
      let same = digits-count n k (proper-digits n k rest (subst (λ (l : List ℕ). proper_digits l ≡ true) r.split p) r.stop under (omega arith)) in
      record { limit = limit; split = r.split ∙ ap (λ (x : ℕ). low_digits x n ++ rest) (sym same); stop = r.stop }

  pub read_count_text : (bs : List ℕ) (n : ℕ) (rest : List ℕ) → read_count most bs ≡ some (n, rest) → Counted most bs n rest
  unfolding read_count
  read_count_text bs n rest e =
      let (test, run) = keep_some (proper_digits bs && leb (digit_run 0 bs).0 most) (digit_run 0 bs) (n, rest) e in
      let (proper, limit) = (and-eq-true_iff (proper_digits bs) (leb (digit_run 0 bs).0 most)).0 test in
      counted bs n rest proper (leb-true n most (rw run at limit)) (rw run at (digit_run-run 0 bs))

  counted_numbered : (bs : List ℕ) (n : ℕ) (rest : List ℕ) → Counted most bs n rest → Numbered most bs (pos n) rest
  unfolding numeral
  counted_numbered bs n rest c = record { limit = c.limit; split = c.split; stop = c.stop }

  pub plain_numbered : (bs : List ℕ) (z : ℤ) (rest : List ℕ) → plain (read_count most bs) ≡ some (z, rest) → Numbered most bs z rest
  unfolding plain bind
  plain_numbered bs z rest = go (read_count most bs) refl
    where
      go : (o : Option (ℕ × List ℕ)) → read_count most bs ≡ o → plain o ≡ some (z, rest) → Numbered most bs z rest
      go none c e = absurd (none-ne-some (z, rest) e)
      go (some (n, more)) c e =
          let same : ◌≡◌ {A = ℤ × List ℕ} (pos n, more) (z, rest) = cc in
          subst (λ (p : ℤ × List ℕ). Numbered most bs p.0 p.1) same (counted_numbered bs n more (read_count_text bs n more c))

  negative_numbered : (bs : List ℕ) (z : ℤ) (rest : List ℕ) → negative (read_count most bs) ≡ some (z, rest) → Numbered most (45 ∷ bs) z rest
  unfolding negative bind numeral
  negative_numbered bs z rest = go (read_count most bs) refl
    where
      go : (o : Option (ℕ × List ℕ)) → read_count most bs ≡ o → negative o ≡ some (z, rest) → Numbered most (45 ∷ bs) z rest
      go none c e = absurd (none-ne-some (z, rest) e)
      go (some (zero, more)) c e = absurd (true≢false (sym (keep_some false (pos 0, more) (z, rest) e).0))
      go (some (suc n, more)) c e =
          let r = read_count_text bs (suc n) more c in
          let same : ◌≡◌ {A = ℤ × List ℕ} (negsuc n, more) (z, rest) = (keep_some (not (eqb (suc n) 0)) (negsuc n, more) (z, rest) e).1 in
          subst
          (λ (p : ℤ × List ℕ). Numbered most (45 ∷ bs) p.0 p.1)
          same
          (record { limit = r.limit; split = ap (λ (l : List ℕ). 45 ∷ l) r.split; stop = r.stop })

  pub read_number_text : (bs : List ℕ) (z : ℤ) (rest : List ℕ) → read_number most bs ≡ some (z, rest) → Numbered most bs z rest
  unfolding read_number
  read_number_text [] z rest e = absurd (none-ne-some (z, rest) e)
  read_number_text (b ∷ bs) z rest e = go (eqb b 45) refl e
    where
      go : (t : Bool) → eqb b 45 ≡ t → read_number most (b ∷ bs) ≡ some (z, rest) → Numbered most (b ∷ bs) z rest
      go true h e =
          let same = eqb-true b 45 h in
          subst
          (λ (c : ℕ). Numbered most (c ∷ bs) z rest)
          (sym same)
          (negative_numbered bs z rest (subst (λ (c : ℕ). read_number most (c ∷ bs) ≡ some (z, rest)) same e))
      go false h e = plain_numbered (b ∷ bs) z rest (sym (read_number-plain most b bs h) ∙ e)
