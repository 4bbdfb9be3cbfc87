-- X^e·a is two rows of a, with different signs, and so is a half of a table to which X^e times the other half is added, row by row of every element.
use Rattle.std.proofs.Common.{◌≡◌, ℕ, ◌+◌, ◌-◌, ◌*◌, ◌/◌, ◌%◌, ◌<◌, ◌≤◌, Bool, not, ltb, List, length, get_or, ℤ, ◌+ℤ◌, neg_ℤ, sym, ap, ◌∙◌, subst, arith, le-ltb, lt-ltb}
use native.Mathlib.Nat as Nat
use native.Mathlib.Decide.{dec_lt}
use Rattle.protocol.specs.Element.{Element, rotate}
use Rattle.protocol.proofs.Reading.{row_inside, cell-element, cell-place, by_cells}
use Rattle.protocol.proofs.Rotation.{around_first, around_second, around-third, rotate_at}
use Rattle.residues.specs.Lists.{spliced_rows}
use Rattle.residues.specs.Residues.{signed}
use Rattle.residues.specs.Places.{Grid, Apart, SecondRow, Added}
use Rattle.residues.proofs.Splice.{spliced-known}

-- ---- the rows; the second begins at place s

module _ (d e s : ℕ) (most : e < 2 * d) (row : SecondRow d e s) (a : Element) (k : ℕ) where
  pub front-turn : k < s → signed (ltb e d) (a (d - s + k)) ≡ rotate d e a k
  unfolding signed
  front-turn l = elim (dec_lt e d) [
    | yes b ↦
        ap (λ z. signed z (a (d - s + k))) (lt-ltb e d b)
        ∙ sym (rotate_at d e a k most ∙ around_second d a (k + (d + d - e)) (omega arith) (omega (arith, row.low b)) ∙ ap (λ n. neg_ℤ (a n)) (omega (arith, row.low b)))
    | no b ↦
        let g : d ≤ e = omega arith in
        ap (λ z. signed z (a (d - s + k))) (le-ltb e d g)
        ∙ sym (rotate_at d e a k most ∙ around_first d a (k + (d + d - e)) (omega (arith, row.high g)) ∙ ap a (omega (arith, row.high g)))
  ]

  pub back_turn : k < d - s → signed (not (ltb e d)) (a k) ≡ rotate d e a (s + k)
  unfolding signed
  back_turn l = elim (dec_lt e d) [
    | yes b ↦
        ap (λ z. signed (not z) (a k)) (lt-ltb e d b)
        ∙ sym (rotate_at d e a (s + k) most ∙ around-third d a (s + k + (d + d - e)) (omega (arith, row.low b)) (omega (arith, row.low b)) ∙ ap a (omega (arith, row.low b)))
    | no b ↦
        let g : d ≤ e = omega arith in
        ap (λ z. signed (not z) (a k)) (le-ltb e d g)
        ∙ sym (rotate_at d e a (s + k) most ∙ around_second d a (s + k + (d + d - e)) (omega (arith, row.high g)) (omega (arith, row.high g)) ∙ ap (λ n. neg_ℤ (a n)) (omega (arith, row.high g)))
  ]

-- ---- where the rows of all elements stand, those of the half that is read behind those of the half that is written; the second rows of that one are counted from
-- place `past` on

module _ (d h s to past second long : ℕ) (part : s ≤ d) (behind : past ≡ to + s) (apart : to + h * d ≤ second) (inside : second + h * d ≤ long) where
  pub first_apart : Apart (Grid s 1 d h) (second + (d - s)) to long
  first_apart = record {
    inside = λ x g. omega (arith, row_inside d h g.0 g.1, g.2.1, g.2.2);
    before = λ x y g w. omega (arith, row_inside d h g.0 g.1, g.2.1, g.2.2);
  }

  pub last_apart : Apart (Grid (d - s) 1 d h) second past long
  last_apart = record {
    inside = λ x g. omega (arith, row_inside d h g.0 g.1, g.2.1, g.2.2);
    before = λ x y g w. omega (arith, row_inside d h g.0 g.1, g.2.1, g.2.2);
  }

-- ---- a half of a table: its numbers stand for whole numbers, by `value`, and `put` makes a number of a sum

module _ {A : Type 0} (z : A) (value : A → ℤ) (put : ℤ → A) where
  abbrev sum : Bool → A → A → A
  sum negative x y = put (value x +ℤ signed negative (value y))

  -- coefficient k of element i of the half from place `to` on, with X^e times that of the half from place `second` on
  abbrev pub turned_cell : ℕ → ℕ → ℕ → ℕ → List A → ℕ → ℕ → A
  turned_cell d e to second l i k = put (value (get_or l (to + (i * d + k)) z) +ℤ rotate d e (λ j. value (get_or l (second + (i * d + j)) z)) k)

  module _ (B : A → A → Type 0) (d h e s to past second : ℕ) (most : e < 2 * d) (part : s ≤ d) (row : SecondRow d e s) (behind : past ≡ to + s) (l t out : List A)
      (apart : to + h * d ≤ second) (long : second + h * d ≤ length l)
      (first : Added z B (sum (ltb e d)) (second + (d - s)) to (Grid s 1 d h) l t)
      (last : Added z B (sum (not (ltb e d))) second past (Grid (d - s) 1 d h) t out)
      (allowed : (x y : ℕ) → x < h * d → y < h * d → B (get_or l (to + x) z) (get_or l (second + y) z)) where
    abbrev cell : ℕ → ℕ → A
    cell = turned_cell d e to second l

    -- where the rows are
    first_place : (x : ℕ) → Grid s 1 d h x → x < h * d
    first_place x g = omega (arith, row_inside d h g.0 g.1, g.2.1, g.2.2)

    last_place : (x : ℕ) → Grid (d - s) 1 d h x → s + x < h * d
    last_place x g = omega (arith, row_inside d h g.0 g.1, g.2.1, g.2.2)

    meet : (x y : ℕ) → Grid s 1 d h x → Grid (d - s) 1 d h y → x ≡ s + y → ⊥
    meet x y g w e =
        let k : ℕ = g.2.0 in
        let j : ℕ = s + w.2.0 in
        Nat.lt_irrefl j (omega (
          arith,
          g.2.1,
          sym (cell-place d g.0 k (omega (arith, g.2.1))),
          ap (λ n. n % d) {x = g.0 * d + k} {y = w.0 * d + j} (omega (arith, g.2.2, w.2.2)),
          cell-place d w.0 j (omega (arith, w.2.1)),
        ))

    front-cell : (i k : ℕ) → i < h → k < s → get_or out (to + (i * d + k)) z ≡ cell i k
    front-cell i k li lk =
        let x : ℕ = i * d + k in
        let g : Grid s 1 d h x = (i, li, (k, lk, omega arith)) in
        last.kept (to + x) (λ y w e. meet x y g w (omega arith))
        ∙ first.done x g (subst (λ n. B (get_or l (to + x) z) (get_or l n z)) (omega arith) (allowed x (d - s + x) (first_place x g) (omega (arith, row_inside d h i li))))
        ∙ ap (λ n. sum (ltb e d) (get_or l (to + x) z) (get_or l n z)) {y = second + (i * d + (d - s + k))} (omega arith)
        ∙ λ v. put (value (get_or l (to + x) z) +ℤ front-turn d e s most row (λ j. value (get_or l (second + (i * d + j)) z)) k lk v)

    back_cell : (i k : ℕ) → i < h → k < d - s → get_or out (past + (i * d + k)) z ≡ cell i (s + k)
    back_cell i k li lk =
        let x : ℕ = i * d + k in
        let g : Grid (d - s) 1 d h x = (i, li, (k, lk, omega arith)) in
        let own : get_or t (past + x) z ≡ get_or l (past + x) z = first.kept (past + x) (λ y w e. meet y x w g (omega arith)) in
        let other : get_or t (second + x) z ≡ get_or l (second + x) z = first.kept (second + x) (λ y w e. Nat.lt_irrefl (to + y) (omega (arith, first_place y w))) in
        last.done x g (subst (λ v. B v (get_or t (second + x) z)) (ap (λ n. get_or l n z) (omega arith) ∙ sym own) (subst (λ v. B (get_or l (to + (s + x)) z) v) (sym other)
        (allowed (s + x) x (last_place x g) (omega (arith, last_place x g)))))
        ∙ (λ v. sum (not (ltb e d)) (own v) (other v))
        ∙ ap (λ n. sum (not (ltb e d)) (get_or l n z) (get_or l (second + x) z)) {y = to + (i * d + (s + k))} (omega arith)
        ∙ λ v. put (value (get_or l (to + (i * d + (s + k))) z) +ℤ back_turn d e s most row (λ j. value (get_or l (second + (i * d + j)) z)) k lk v)

    each_cell : (i k : ℕ) → i < h → k < d → get_or out (to + (i * d + k)) z ≡ cell i k
    each_cell i k li lk = elim (dec_lt k s) [
      | yes b ↦ front-cell i k li b
      | no b ↦ ap (λ n. get_or out n z) {y = past + (i * d + (k - s))} (omega arith) ∙ back_cell i (k - s) li (omega arith) ∙ ap (cell i) (omega arith)
    ]

    pub turned-half : out ≡ spliced_rows cell to d h l
    turned-half =
        spliced-known z _ to (h * d) l out (omega arith) (last.long ∙ first.long)
        (λ p b. last.kept p (λ x g e. Nat.lt_irrefl p (omega arith)) ∙ first.kept p (λ x g e. Nat.lt_irrefl p (omega arith)))
        (by_cells d h (omega arith) (λ p. get_or out (to + p) z ≡ cell (p / d) (p % d))
        (λ i k li lk. each_cell i k li lk ∙ sym (λ v. cell (cell-element d i k lk v) (cell-place d i k lk v))))
        (λ p b. last.kept p (λ x g e. Nat.lt_irrefl p (omega (arith, last_place x g))) ∙ first.kept p (λ x g e. Nat.lt_irrefl p (omega (arith, first_place x g))))
