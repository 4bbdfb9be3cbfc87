-- The rows of a product: where one begins, one row, four at once, and all of them.
use Rattle.std.proofs.Common.{◌≡◌, ℕ, zero, suc, ◌+◌, ◌-◌, ◌*◌, ◌%◌, ◌^◌, ◌<◌, ◌≤◌, true, false, List, ◌++◌, length, get_or, take, drop, set, get_or-take, ℤ, pos, negsuc, sym, refl, ap, ◌∙◌, arith, le-ltb}
use mathlib.Core.Bool.{false≢true}
use native.Mathlib.Nat as Nat
use lib.ListN.{get_or-append}
use lib.Signed.{lt_z}
use Rattle.protocol.specs.Basic.{tabulate}
use Rattle.protocol.specs.Element.{width}
use Rattle.protocol.specs.Layout.{rows_most, rows_width}
use Rattle.protocol.proofs.Reading.{tabulate_at, tabulate_length, tabulate_ext}
use Rattle.rows.specs.Rows.{start, add_row, next_row, add_rows, add_four}
use Rattle.residues.proofs.Fill.{filled, filled-behind, filled_ext, filled_at, filled-turn, filled-again}

-- ---- where a row begins

pub start-below : (d j : ℕ) (z : ℤ) → lt_z z (pos 0) ≡ true → d - j ≡ start d z j
unfolding start
start-below d j (pos n) t = absurd (false≢true (sym (le-ltb n 0 (omega arith)) ∙ t))
start-below d j (negsuc n) t = refl

pub start-above : (d j : ℕ) (z : ℤ) → lt_z z (pos 0) ≡ false → d + d - j ≡ start d z j
unfolding start
start-above d j (pos n) t = refl
start-above d j (negsuc n) t = absurd (false≢true (sym t))

pub start_most : (d j : ℕ) (z : ℤ) → start d z j ≤ d + d
unfolding start
start_most d j (pos n) = omega arith
start_most d j (negsuc n) = omega arith

pub begins_most : (d j : ℕ) (z : ℤ) {r : ℕ} → r ≡ start d z j → r ≤ d + d
begins_most d j z e = omega (arith, e, start_most d j z)

-- ---- one row, over what the function f gives

abbrev over_cell : (ℕ → ℕ) → ℕ → ℕ → (ℕ → ℕ) → ℕ → ℕ
over_cell f m at x k = (f k + m * x (at + k)) % 2 ^ 64

unwritten : (f : ℕ → ℕ) (d : ℕ) (s₀ : List ℕ) (k : ℕ) {s : List ℕ} → s ≡ filled f k (take d s₀) → k < d → get_or s k 0 ≡ get_or s₀ k 0
unwritten f d s₀ k e b = ap (λ l. get_or l k 0) e ∙ filled-behind f k (take d s₀) 0 k (Nat.le_refl k) ∙ get_or-take d s₀ k 0 b

abbrev pub row_cell : ℕ → ℕ → (ℕ → ℕ) → List ℕ → ℕ → ℕ
row_cell m at x s = over_cell (λ k. get_or s k 0) m at x

module _ (m at : ℕ) (x : ℕ → ℕ) where
  -- a turn of the loop, over the first d sums of s₀
  pub row_turn : (d : ℕ) (s₀ s : List ℕ) (k v : ℕ) → s ≡ filled (row_cell m at x s₀) k (take d s₀) → k < d → k < length (take d s₀) → v ≡ row_cell m at x s k
      → set s k v ≡ filled (row_cell m at x s₀) (k + 1) (take d s₀)
  row_turn d s₀ s k v e b h w = filled-turn (row_cell m at x s₀) k (take d s₀) e (w ∙ ap (λ y. (y + m * x (at + k)) % 2 ^ 64) (unwritten (row_cell m at x s₀) d s₀ k e b)) h

  module _ (d : ℕ) where
    pub row_done : (s : List ℕ) → filled (row_cell m at x s) d s ≡ add_row d m at x s
    unfolding filled add_row
    row_done s = refl

    pub row_at : (s : List ℕ) (k : ℕ) → k < d → get_or (add_row d m at x s) k 0 ≡ row_cell m at x s k
    unfolding add_row
    row_at s k h = get_or-append (tabulate d (row_cell m at x s)) (drop d s) 0 k (omega (arith, tabulate_length d (row_cell m at x s))) ∙ tabulate_at d (row_cell m at x s) 0 k h

    row_over : (f : ℕ → ℕ) (s : List ℕ) → filled (over_cell f m at x) d s ≡ add_row d m at x (filled f d s)
    row_over f s = sym (
        sym (row_done (filled f d s)) ∙ filled-again f (row_cell m at x (filled f d s)) d s
        ∙ filled_ext (row_cell m at x (filled f d s)) (over_cell f m at x) d s (λ k h. ap (λ y. (y + m * x (at + k)) % 2 ^ 64) (filled_at f d s 0 k h)))

-- ---- four rows at once

module _ (m0 at0 m1 at1 m2 at2 m3 at3 : ℕ) (x : ℕ → ℕ) where
  abbrev pub four_cell : List ℕ → ℕ → ℕ
  four_cell s = over_cell (over_cell (over_cell (row_cell m0 at0 x s) m1 at1 x) m2 at2 x) m3 at3 x

  pub four-done : (d : ℕ) (s : List ℕ) → filled (four_cell s) d s ≡ add_row d m3 at3 x (add_row d m2 at2 x (add_row d m1 at1 x (add_row d m0 at0 x s)))
  four-done d s =
      row_over m3 at3 x d _ s
      ∙ ap (add_row d m3 at3 x) (row_over m2 at2 x d _ s ∙ ap (add_row d m2 at2 x) (row_over m1 at1 x d (row_cell m0 at0 x s) s ∙ ap (add_row d m1 at1 x) (row_done m0 at0 x d s)))

  -- a turn of the loop
  pub four-turn : (d : ℕ) (s₀ s : List ℕ) (k first second third fourth : ℕ) → s ≡ filled (four_cell s₀) k (take d s₀) → k < d → k < length (take d s₀)
      → first ≡ (get_or s k 0 + m0 * x (at0 + k)) % 2 ^ 64 → second ≡ (first + m1 * x (at1 + k)) % 2 ^ 64
      → third ≡ (second + m2 * x (at2 + k)) % 2 ^ 64 → fourth ≡ (third + m3 * x (at3 + k)) % 2 ^ 64
      → set s k fourth ≡ filled (four_cell s₀) (k + 1) (take d s₀)
  four-turn d s₀ s k first second third fourth e b h one two three four =
      let over : ℕ → ℕ → ℕ → ℕ = λ m at y. (y + m * x (at + k)) % 2 ^ 64 in
      filled-turn (four_cell s₀) k (take d s₀) e
      (four ∙ ap (over m3 at3) (three ∙ ap (over m2 at2) (two ∙ ap (over m1 at1) (one ∙ ap (over m0 at0) (unwritten (four_cell s₀) d s₀ k e b)))))
      h

-- ---- all rows, in c strands

pub four_more : (c d : ℕ) (f : List ℤ) (x : ℕ → ℕ) (j : ℕ) (s : List ℕ) → add_four c d f x j (add_rows c d f x j s) ≡ add_rows c d f x (j + 4) s
unfolding add_four add_rows
four_more c d f x j s =
    let one : j + 1 ≡ suc j = omega arith in
    let two : j + 2 ≡ suc (suc j) = omega arith in
    let three : j + 3 ≡ suc (suc (suc j)) = omega arith in
    let four : suc (suc (suc (suc j))) ≡ j + 4 = omega arith in
    (λ i. next_row c d f x (three i) (next_row c d f x (two i) (next_row c d f x (one i) (next_row c d f x j (add_rows c d f x j s)))))
    ∙ ap (λ n. add_rows c d f x n s) four

pub cells_most_lem : (c d : ℕ) → c ≤ rows_most → d ≤ width → d * c ≤ rows_width
cells_most_lem c d few most = omega (arith, Nat.mul-le-mul {n₂ = width} {m₂ = rows_most} most few)

pub start-strand : (c d j : ℕ) → j ≤ d → (z : ℤ) → start (d * c) z (j * c) ≡ start d z j * c
unfolding start
start-strand c d j l (pos n) = omega (arith, Nat.add-mul (d + d - j) j c, ap (λ m. m * c) {x = d + d - j + j} {y = d + d} (omega arith), Nat.add-mul d d c)
start-strand c d j l (negsuc n) = omega (arith, Nat.add-mul (d - j) j c, ap (λ m. m * c) {x = d - j + j} {y = d} (omega arith))

-- a product reads the places below 3d of each strand alone
module _ (c d : ℕ) (f : List ℤ) (x x' : ℕ → ℕ) (e : (y : ℕ) → y < 3 * (d * c) → x y ≡ x' y) where
  row_front : (m at : ℕ) (s : List ℕ) → at ≤ d * c + d * c → add_row (d * c) m at x s ≡ add_row (d * c) m at x' s
  unfolding add_row
  row_front m at s h = ap (λ l. l ++ drop (d * c) s) (tabulate_ext (d * c) (λ k l. ap (λ y. (get_or s k 0 + m * y) % 2 ^ 64) (e (at + k) (omega arith))))

  pub rows_front : (n : ℕ) (s : List ℕ) → add_rows c d f x n s ≡ add_rows c d f x' n s
  unfolding add_rows
  rows_front zero s = refl
  rows_front (suc n) s = row_front _ _ (add_rows c d f x n s) (start_most (d * c) (n * c) (get_or f n (pos 0))) ∙ ap (next_row c d f x' n) (rows_front n s)

-- the rows of four coefficients that are there, and of one
pub row_inside : (c d j : ℕ) → 0 < c → j < d → j * c < d * c
row_inside c d j some h = Nat.mul-lt-mul_of_pos_right {m = j} {n = d} h some
