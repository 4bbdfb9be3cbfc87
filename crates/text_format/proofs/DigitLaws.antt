-- Laws about decimal digits: what a run of them stands for, and how many a number has.
use mathlib.Core.Path.{◌≡◌, refl, sym, ◌∙◌, ap, subst}
use mathlib.Core.Bool.{true, false, and-eq-true_iff}
use mathlib.Core.List.{List, [], ◌∷◌, ◌++◌, append_assoc}
use Prim.Native.Nat.{ℕ, zero, suc, ◌+◌, ◌*◌, ◌-◌, ◌/◌, ◌%◌, ◌^◌, ◌<◌, ◌≤◌}
use native.Mathlib.Omega.{arith}
use native.Mathlib.Numerals.{add-one}
use native.Mathlib.Decide.{dec_lt}
use native.Mathlib.Nat.{mul_assoc, pow-succ', mod-lt, mod-eq_of_lt, mul-add-mod_self_right, div-add-mod', div-div-eq-div-mul}
use native.Mathlib.Nat.{pow-suc, mod-one, mul-one, div-one, one-le-pow, pow-le-pow_right}
use lib.Dec.{leb, ltb}
use lib.ListN.{length, length-append}
use borrow.Author.Tests.{le-leb, lt-ltb, le-ltb, ltb-true, ltb-false, leb-true}
use Rattle.protocol.specs.Basic.{least}
use Rattle.text_format.specs.Text.{digit_count, low_digits, decimal, digit, digit_run, digit_first}
use Rattle.protocol.proofs.Tests.{First, least_first, least_is}

-- ---- Digits

pub low_digits-length : (k n : ℕ) → length (low_digits k n) ≡ k
unfolding low_digits
low_digits-length zero n = refl
low_digits-length (suc k) n = length-append (low_digits k (n / 10)) _ ∙ ap (λ (l : ℕ). l + 1) (low_digits-length k (n / 10)) ∙ add-one k

pub decimal-length : (n : ℕ) → length (decimal n) ≡ digit_count n
unfolding decimal
decimal-length n = low_digits-length (digit_count n) n

pub digit-of : (r : ℕ) → r < 10 → digit (48 + r) ≡ true
unfolding digit
digit-of r h = rw (le-leb 48 (48 + r) (omega arith), le-leb (48 + r) 57 (omega arith))

pub digit-bounds : (b : ℕ) → digit b ≡ true → (48 ≤ b) × (b ≤ 57)
unfolding digit
digit-bounds b h = let (low, high) = (and-eq-true_iff (leb 48 b) (leb b 57)).0 h in (leb-true 48 b low, leb-true b 57 high)

pub digit_run_on : (n b : ℕ) (bs : List ℕ) → digit b ≡ true → digit_run n (b ∷ bs) ≡ digit_run (n * 10 + (b - 48)) bs
unfolding digit_run
digit_run_on n b bs h = rw (h, digit_run)

pub digit_run-digit : (n r : ℕ) (bs : List ℕ) → r < 10 → digit_run n ((48 + r) ∷ bs) ≡ digit_run (n * 10 + r) bs
digit_run-digit n r bs h = digit_run_on n (48 + r) bs (digit-of r h) ∙ ap (λ (x : ℕ). digit_run (n * 10 + x) bs) (omega arith)

-- the digits from the first that is no digit on are left
pub digit_run-stop : (n : ℕ) (rest : List ℕ) → digit_first rest ≡ false → digit_run n rest ≡ (n, rest)
unfolding digit_run digit_first
digit_run-stop n [] h = refl
digit_run-stop n (b ∷ bs) h = rw (h, digit_run)

-- n modulo 10·P by its last digit and what stands before it
mod_ten : (n P : ℕ) → 0 < P → n % (P * 10) ≡ n / 10 % P * 10 + n % 10
mod_ten n P h =
    let split : n ≡ n / 10 / P * (P * 10) + (n / 10 % P * 10 + n % 10) = omega (arith, div-add-mod' (n / 10) P, mul_assoc (n / 10 / P) P 10) in
    let r : n % 10 < 10 = mod-lt n (omega arith) in
    let a : n / 10 % P < P = mod-lt (n / 10) h in
    ap (λ (x : ℕ). x % (P * 10)) split
    ∙ mul-add-mod_self_right (n / 10 / P) (P * 10) (n / 10 % P * 10 + n % 10)
    ∙ mod-eq_of_lt (omega arith)

pub ten_pos : (k : ℕ) → 0 < 10 ^ k
ten_pos k = one-le-pow k 10 (omega arith)

pub ten_le : (i j : ℕ) → i ≤ j → 10 ^ i ≤ 10 ^ j
ten_le i j h = pow-le-pow_right {n = 10} (omega arith) {i = i} {j = j} h

-- the last k digits of n stand for n modulo 10^k
pub digit_run-low : (k n m : ℕ) (rest : List ℕ) → digit_run m (low_digits k n ++ rest) ≡ digit_run (m * 10 ^ k + n % 10 ^ k) rest
unfolding low_digits
digit_run-low zero n m rest = ap (λ (x : ℕ). digit_run x rest) (omega (arith, mul-one m, mod-one n))
digit_run-low (suc k) n m rest =
    ap (digit_run m) (append_assoc (low_digits k (n / 10)) _ rest)
    ∙ digit_run-low k (n / 10) m ((48 + n % 10) ∷ rest)
    ∙ digit_run-digit (m * 10 ^ k + n / 10 % 10 ^ k) (n % 10) rest (mod-lt n (omega arith))
    ∙ ap
    (λ (x : ℕ). digit_run x rest)
    (omega (arith, mul_assoc m (10 ^ k) 10, mod_ten n (10 ^ k) (ten_pos k), ap (λ (x : ℕ). m * x) (pow-suc 10 k), ap (λ (x : ℕ). n % x) (pow-suc 10 k)))

-- the first of k + 1 digits
pub low_digits-cons : (k n : ℕ) → low_digits (suc k) n ≡ (48 + n / 10 ^ k % 10) ∷ low_digits k n
unfolding low_digits
low_digits-cons zero n = ap (λ (x : ℕ). (48 + x % 10) ∷ []) (sym (div-one n))
low_digits-cons (suc k) n =
    ap (λ (l : List ℕ). l ++ ((48 + n % 10) ∷ [])) (low_digits-cons k (n / 10))
    ∙ ap
    (λ (x : ℕ). (48 + x % 10) ∷ (low_digits k (n / 10) ++ ((48 + n % 10) ∷ [])))
    (div-div-eq-div-mul n 10 (10 ^ k) ∙ ap (λ (x : ℕ). n / x) (sym (pow-succ' 10 k)))

-- ---- How many digits

-- a number of k digits: 10^(k−1) ≤ n < 10^k, and one digit for 0
pub record Digits (n k : ℕ) : Type 0 where
  pub some_digit : 0 < k
  pub at_most : k ≤ 19
  pub under : n < 10 ^ k
  pub over : (i : ℕ) → suc i < k → 10 ^ suc i ≤ n

pub digit_count-digits : (n : ℕ) → n < 10 ^ 19 → Digits n (digit_count n)
unfolding digit_count
digit_count-digits n h = go (least 18 (λ k. ltb n (10 ^ suc k))) (least_first 18 (λ k. ltb n (10 ^ suc k)))
  where
    last : (j : ℕ) → 18 ≡ j → n < 10 ^ suc j
    last j e = subst (λ (x : ℕ). n < 10 ^ suc x) e h

    top : (j : ℕ) → j ≤ 18 → (j < 18 → n < 10 ^ suc j) → n < 10 ^ suc j
    top j l f = elim (dec_lt j 18) [ yes m ↦ f m | no m ↦ last j (omega arith) ]

    go : (j : ℕ) → First 18 (λ k. ltb n (10 ^ suc k)) j → Digits n (suc j)
    go j r = record {
      some_digit = omega arith;
      at_most = omega arith;
      under = top j r.at_most (λ l. ltb-true n (10 ^ suc j) (r.holds l));
      over = λ i l. ltb-false n (10 ^ suc i) (r.none_before i (omega arith));
    }

pub digits-count : (n k : ℕ) → Digits n k → digit_count n ≡ k
unfolding digit_count
digits-count n zero r = absurd (omega arith)
digits-count n (suc j) r =
    ap
    suc
    (least_is 18 (λ k. ltb n (10 ^ suc k)) j
    (record {
      at_most = omega (arith, r.at_most);
      holds = λ l. lt-ltb n (10 ^ suc j) r.under;
      none_before = λ i l. le-ltb n (10 ^ suc i) (r.over i (omega arith));
    }))
