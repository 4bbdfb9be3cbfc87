-- Laws about numbers as text: a number that is written is read back.
use mathlib.Core.Path.{◌≡◌, refl, sym, ◌∙◌, ap, subst}
use mathlib.Core.Bool.{true, false, ◌&&◌, and-false}
use mathlib.Core.List.{List, ◌∷◌, ◌++◌}
use mathlib.Core.Option.{some, bind}
use Prim.Native.Nat.{ℕ, zero, suc, ◌+◌, ◌/◌, ◌%◌, ◌^◌, ◌<◌, ◌≤◌}
use native.Mathlib.Omega.{arith}
use native.Mathlib.Nat.{zero-mul, pow-succ', mod-lt, mod-eq_of_lt}
use native.Mathlib.Nat.{le-div_iff_mul-le, div-lt_iff_lt-mul}
use lib.Dec.{ltb, eqb, eqb-suc-zero}
use lib.ListN.{length}
use lib.IntN.{ℤ, pos, negsuc, nat_abs}
use borrow.Author.Tests.{le-leb, ne_eqb}
use Rattle.protocol.specs.Basic.{least}
use Rattle.text_format.specs.Text.{value_limit, digit_count, low_digits, decimal, numeral, keep, digit, digit_run, digit_first, proper_digits, read_count}
use Rattle.text_format.specs.Text.{plain, negative, read_number}
use Rattle.text_format.proofs.DigitLaws.{decimal-length, digit-of, digit_run-stop, ten_pos, digit_run-low, low_digits-cons, Digits, digit_count-digits}

-- every number of a text has at most nineteen digits
pub few-digits : (n : ℕ) → n ≤ value_limit → n < 10 ^ 19
unfolding value_limit
few-digits n h = omega arith

pub digit_run-decimal : (n : ℕ) (rest : List ℕ) → n ≤ value_limit → digit_run 0 (decimal n ++ rest) ≡ digit_run n rest
unfolding decimal
digit_run-decimal n rest h =
    digit_run-low (digit_count n) n 0 rest
    ∙ ap (λ (x : ℕ). digit_run x rest) (omega (arith, zero-mul (10 ^ digit_count n), mod-eq_of_lt (digit_count-digits n (few-digits n h)).under))

-- the first digit of a number
pub decimal-cons : (n j : ℕ) → digit_count n ≡ suc j → decimal n ≡ (48 + n / 10 ^ j % 10) ∷ low_digits j n
unfolding decimal
decimal-cons n j e = ap (λ (k : ℕ). low_digits k n) e ∙ low_digits-cons j n

pub digit_count-suc : (n : ℕ) → (j : ℕ) × (digit_count n ≡ suc j)
unfolding digit_count
digit_count-suc n = (least 18 (λ k. ltb n (10 ^ suc k)), refl)

-- no leading zero: of two digits or more the first is not 0
leading : (n j : ℕ) → Digits n (suc (suc j)) → eqb (48 + n / 10 ^ suc j % 10) 48 ≡ false
leading n j r =
    let low : 1 ≤ n / 10 ^ suc j = (le-div_iff_mul-le (ten_pos (suc j))).1 (omega (arith, r.over j (omega arith))) in
    let high : n / 10 ^ suc j < 10 = (div-lt_iff_lt-mul (ten_pos (suc j))).1 (omega (arith, r.under, pow-succ' 10 (suc j))) in
    ne_eqb (48 + n / 10 ^ suc j % 10) 48 (λ e. omega (arith, mod-eq_of_lt high))

pub proper_cons : (b : ℕ) (bs : List ℕ) → digit b ≡ true → eqb b 48 && digit_first bs ≡ false → proper_digits (b ∷ bs) ≡ true
unfolding proper_digits
proper_cons b bs h e = rw (h, e)

proper_decimal : (n j : ℕ) (rest : List ℕ) → digit_count n ≡ suc j → Digits n (suc j) → digit_first rest ≡ false
    → proper_digits (decimal n ++ rest) ≡ true
proper_decimal n zero rest e r h =
    rw (decimal-cons n 0 e)
    (proper_cons _ _ (digit-of (n / 1 % 10) (mod-lt (n / 1) (omega arith))) (unfold low_digits in (rw h (and-false (eqb (48 + n / 1 % 10) 48)))))
proper_decimal n (suc j) rest e r h =
    rw (decimal-cons n (suc j) e)
    (proper_cons _ _ (digit-of (n / 10 ^ suc j % 10) (mod-lt (n / 10 ^ suc j) (omega arith))) (rw (leading n j r)))

pub read_count-decimal : (most n : ℕ) (rest : List ℕ) → most ≤ value_limit → n ≤ most → digit_first rest ≡ false
    → read_count most (decimal n ++ rest) ≡ some (n, rest)
unfolding read_count keep
read_count-decimal most n rest limit h stop =
    let few : n ≤ value_limit = omega arith in
    let run : digit_run 0 (decimal n ++ rest) ≡ (n, rest) = digit_run-decimal n rest few ∙ digit_run-stop n rest stop in
    let (j, e) = digit_count-suc n in
    let digits : Digits n (suc j) = subst (Digits n) e (digit_count-digits n (few-digits n few)) in
    rw (run, proper_decimal n j rest e digits stop, le-leb n most h)

pub read_number-plain : (most b : ℕ) (bs : List ℕ) → eqb b 45 ≡ false → read_number most (b ∷ bs) ≡ plain (read_count most (b ∷ bs))
unfolding read_number
read_number-plain most b bs h = rw (h, read_number)

pub read_number-numeral : (most : ℕ) (z : ℤ) (rest : List ℕ) → most ≤ value_limit → nat_abs z ≤ most → digit_first rest ≡ false
    → read_number most (numeral z ++ rest) ≡ some (z, rest)
unfolding numeral read_number plain negative bind keep
read_number-numeral most (pos n) rest limit h stop =
    let (j, e) = digit_count-suc n in
    let c : decimal n ++ rest ≡ (48 + n / 10 ^ j % 10) ∷ (low_digits j n ++ rest) = ap (λ (l : List ℕ). l ++ rest) (decimal-cons n j e) in
    ap (read_number most) c
    ∙ read_number-plain most (48 + n / 10 ^ j % 10) (low_digits j n ++ rest) (ne_eqb (48 + n / 10 ^ j % 10) 45 (λ x. omega arith))
    ∙ ap plain (ap (read_count most) (sym c) ∙ read_count-decimal most n rest limit h stop)
read_number-numeral most (negsuc n) rest limit h stop = rw (read_count-decimal most (suc n) rest limit h stop, eqb-suc-zero n)

pub decimal-some : (n : ℕ) → 0 < length (decimal n)
decimal-some n = omega (arith, decimal-length n, (digit_count-suc n).1)

pub numeral-some : (z : ℤ) → 0 < length (numeral z)
unfolding numeral
numeral-some (pos n) = decimal-some n
numeral-some (negsuc n) = omega arith
