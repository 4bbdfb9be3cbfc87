-- How many digits a number has, and its digits from the lowest on.
--
--   counted          the count by the largest power of ten that a number is not below
--   digits_most      no more than nineteen
--   field-length     a number and a byte behind it
--   digit-step       one digit more, before those that are stored
--   digits_none      none of them
--   digits_done      all of them
use Rattle.std.specs.Option.{IfNone, IfSome, unwrap_or}
use Rattle.std.proofs.Common.{Option, None, Some, ◌≡◌, sym, ap, ◌∙◌, List, [], ◌∷◌, ◌++◌, append_assoc, ℕ, suc, ◌+◌, ◌*◌, ◌-◌, ◌/◌, ◌%◌, ◌^◌, ◌<◌, ◌≤◌, min, arith, add-one, ltb, length, take, drop, set, length-append, take-append-drop, drop_of_length-le}
use native.Mathlib.Nat as Nat
use borrow.Author.Tests.{le-ltb, lt-ltb}
use lib.Seq.{length-take-le, set_split, drop_at}
use Rattle.text_format.specs.Text.{digit_count, low_digits, decimal}
use Rattle.protocol.proofs.Tests.{least_first, least_is}
use Rattle.text_format.proofs.NumeralLaws.{decimal-length}
use Rattle.table_writer.specs.Put.{field}

-- the powers of ten that a number is not below
by_power : (n k : ℕ) → (0 < k → 10 ^ k ≤ n) → n < 10 * 10 ^ k → min (k + 1) 19 ≡ digit_count n
unfolding digit_count
by_power n k low high =
    let most : min k 18 ≤ 18 = omega arith in
    omega (
      arith,
      ap suc (least_is 18 (λ i. ltb n (10 ^ suc i)) (min k 18) (record {
        at_most = most;
        holds = λ l. lt-ltb n (10 ^ suc (min k 18)) (omega (arith, high, ap (λ i. 10 ^ suc i) {x = min k 18} {y = k} (omega arith), Nat.pow-suc 10 k));
        none_before = λ i l. le-ltb n (10 ^ suc i) (Nat.le_trans (Nat.pow-le-pow_right {n = 10} (omega arith) {i = suc i} {j = k} (omega arith)) (low (omega arith)));
      })),
    )

pub counted : (n : ℕ) (r : Option ℕ) → IfNone r (n ≡ 0) → IfSome r (λ k. 10 ^ k ≤ n) → IfSome r (λ k. n < 10 * 10 ^ k) → min (unwrap_or r 0 + 1) 19 ≡ digit_count n
counted n None zero low high = by_power n 0 (λ h. absurd (omega arith)) (omega (arith, zero))
counted n (Some k) zero low high = by_power n k (λ _. low) high

pub digits_most : (n : ℕ) → digit_count n ≤ 19
unfolding digit_count
digits_most n = omega (arith, (least_first 18 (λ k. ltb n (10 ^ suc k))).at_most)

pub field-length : (n behind : ℕ) → length (field n behind) ≡ digit_count n + 1
unfolding field
field-length n behind = length-append (decimal n) (behind ∷ []) ∙ ap (λ m. m + 1) (decimal-length n)

drop-set_here : (l : List ℕ) (i a : ℕ) → i < length l → drop i (set l i a) ≡ a ∷ drop (suc i) l
drop-set_here l i a h = ap (drop i) (set_split l i a h) ∙ drop_at (take i l) (a ∷ drop (suc i) l) i (length-take-le i l (omega arith))

-- the digits before place j are still to come
pub digit-step : (first j rest : ℕ) (digits : List ℕ) → first ≤ j → j < length digits
    → low_digits (j - first) (rest / 10) ++ drop j (set digits j (48 + rest % 10)) ≡ low_digits (j + 1 - first) rest ++ drop (j + 1) digits
unfolding low_digits
digit-step first j rest digits l h =
    ap (λ t. low_digits (j - first) (rest / 10) ++ t) (drop-set_here digits j (48 + rest % 10) h)
    ∙ sym (append_assoc (low_digits (j - first) (rest / 10)) ((48 + rest % 10) ∷ []) (drop (suc j) digits))
    ∙ ap (λ k. low_digits k rest ++ drop (suc j) digits) {x = suc (j - first)} {y = j + 1 - first} (omega arith)
    ∙ ap (λ k. low_digits (j + 1 - first) rest ++ drop k digits) (sym (add-one j))

-- no digit is stored yet, and the byte behind them is
pub digits_none : (start count n behind : ℕ) (text : List ℕ) → count ≡ digit_count n → length text ≡ start + count + 1
    → low_digits (start + count - start) n ++ drop (start + count) (set text (start + count) behind) ≡ field n behind
unfolding low_digits field decimal
digits_none start count n behind text e long =
    let end = start + count in
    ap (λ d. low_digits (end - start) n ++ d) (drop-set_here text end behind (omega arith)
    ∙ ap (λ l. behind ∷ l) (drop_of_length-le text {i = suc end} (omega arith)))
    ∙ ap (λ k. low_digits k n ++ (behind ∷ [])) {x = end - start} {y = digit_count n} (omega arith)

-- all digits are stored
pub digits_done : (start k rest n behind : ℕ) (front text : List ℕ) → k ≡ start → take start text ≡ front → low_digits (k - start) rest ++ drop k text ≡ field n behind
    → text ≡ front ++ field n behind
unfolding low_digits
digits_done start k rest n behind front text e f h =
    sym (take-append-drop start text)
    ∙ ap (λ t. t ++ drop start text) f
    ∙ ap (λ t. front ++ t)
    (ap (λ m. low_digits m rest ++ drop start text) {x = 0} {y = k - start} (omega arith) ∙ ap (λ m. low_digits (k - start) rest ++ drop m text) (sym e) ∙ h)
