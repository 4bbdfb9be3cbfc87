-- The lines of a part, one after the other.
--
--   cell_first, cell_last, cell_more   the first line, and the line behind one, at the end of an item or not
--   next-..                            the line behind a line, by the tests of `next_cell`
--   next-cell                          of line p it is line p + 1
--   cell-inside                        a line of a part is within its places and items
--   spots-count                        how many lines a part has
--   spots_next, spots-end              the spots from line p on
use mathlib.Core.Path.{◌≡◌, sym, ap, ◌∙◌}
use mathlib.Core.List.{[], ◌∷◌}
use Prim.Native.Nat.{ℕ, zero, suc, ◌+◌, ◌*◌, ◌/◌, ◌%◌, ◌^◌, ◌<◌, ◌≤◌}
use native.Mathlib.Nat as Nat
use native.Mathlib.Omega.{arith}
use native.Mathlib.Decide.{dec_lt}
use borrow.Author.Tests.{lt-ltb, le-ltb, le-leb, lt-leb, eq-eqb, ne_eqb}
use lib.Dec.{eqb, ltb}
use lib.ListN.{length, drop, drop_of_length-le}
use Rattle.protocol.specs.Basic.{choose}
use Rattle.text_format.specs.Text.{Shape, shape_size, spot_at, spots}
use Rattle.protocol.proofs.Reading.{cell-element, cell-place, tabulate_length, tabulate_at}
use Rattle.text_parts.specs.declared.Cell.{Cell}
use Rattle.text_parts.specs.Parts.{cell_at, next_cell}
use Rattle.text_parts.proofs.From.{from_cons}

abbrev pub cell : ℕ → ℕ → Cell
cell item place = record { item = item; place = place }

pub cell_first : (d : ℕ) → cell_at d 0 ≡ cell 0 0
unfolding cell_at
cell_first d = λ j. cell (Nat.zero-div d j) (Nat.zero-mod d j)

-- the cell of i·d + k
cell_of : (d i k p : ℕ) → k < d → p ≡ i * d + k → cell_at d p ≡ cell i k
unfolding cell_at
cell_of d i k p h e = ap (cell_at d) e ∙ (λ j. cell (cell-element d i k h j) (cell-place d i k h j))

module _ (d p : ℕ) where
  pub cell_last : p % d < d → p % d + 1 ≡ d → cell_at d (p + 1) ≡ cell (p / d + 1) 0
  cell_last h e = cell_of d (p / d + 1) 0 (p + 1) (omega arith) (omega (arith, Nat.div-add-mod' p d, Nat.add-mul (p / d) 1 d))

  pub cell_more : p % d + 1 < d → cell_at d (p + 1) ≡ cell (p / d) (p % d + 1)
  cell_more h = cell_of d (p / d) (p % d + 1) (p + 1) h (omega (arith, Nat.div-add-mod' p d))

-- ---- the line behind a line

module _ (d : ℕ) (c : Cell) where
  abbrev more : Cell
  more = cell c.item (c.place + 1)

  abbrev item : Cell
  item = cell (c.item + 1) 0

  pub next_outside : d ≤ c.place → next_cell d c ≡ c
  unfolding next_cell choose
  next_outside h = λ j. choose (le-leb _ _ h j) c (choose (ltb (c.place + 1) d) more (choose (eqb c.item 4_294_967_295) c item))

  module _ (h : c.place < d) where
    pub next_more : c.place + 1 < d → next_cell d c ≡ more
    unfolding next_cell choose
    next_more m = λ j. choose (lt-leb _ _ h j) c (choose (lt-ltb _ _ m j) more (choose (eqb c.item 4_294_967_295) c item))

    pub next_full : d ≤ c.place + 1 → c.item ≡ 4_294_967_295 → next_cell d c ≡ c
    unfolding next_cell choose
    next_full l e = λ j. choose (lt-leb _ _ h j) c (choose (le-ltb _ _ l j) more (choose (eq-eqb _ _ e j) c item))

    pub next_item : d ≤ c.place + 1 → (c.item ≡ 4_294_967_295 → ⊥) → next_cell d c ≡ item
    unfolding next_cell choose
    next_item l n = λ j. choose (lt-leb _ _ h j) c (choose (le-ltb _ _ l j) more (choose (ne_eqb _ _ n j) c item))

    pub next-cell : c.item + 1 < 2 ^ 32 → (p : ℕ) → c ≡ cell_at d p → next_cell d c ≡ cell_at d (p + 1)
    unfolding cell_at
    next-cell few p e =
        let place_is : c.place ≡ p % d = ap (λ x. x.place) e in
        elim (dec_lt (c.place + 1) d) [
          | yes m ↦ next_more m ∙ (λ j. cell (e j).item ((e j).place + 1)) ∙ sym (cell_more d p (omega arith))
          | no n ↦ next_item (omega arith) (λ f. absurd (omega arith)) ∙ (λ j. cell ((e j).item + 1) 0) ∙ sym (cell_last d p (omega arith) (omega arith))
        ]

pub spots-count : (b : Shape) → length (spots b) ≡ shape_size b
unfolding spots
spots-count b = tabulate_length (shape_size b) (spot_at b)

module _ (b : Shape) (p : ℕ) (h : p < shape_size b) where
  some-places : 0 < b.places
  unfolding shape_size
  some-places = positive b.places b.items h
    where
      positive : (d n : ℕ) → p < n * d → 0 < d
      positive zero n l = absurd (omega (arith, Nat.mul-zero n))
      positive (suc d) n l = omega arith

  cell-place-inside : p % b.places < b.places
  cell-place-inside = Nat.mod-lt p some-places

  cell-item-inside : p / b.places < b.items
  unfolding shape_size
  cell-item-inside = (Nat.div-lt_iff_lt-mul some-places).1 h

  -- so the line behind it can be named
  pub cell-inside : (c : Cell) → b.items < 2 ^ 32 → c ≡ cell_at b.places p → (c.place < b.places) × (c.item + 1 < 2 ^ 32)
  unfolding cell_at
  cell-inside c few e = (omega (arith, ap (λ x. x.place) e, cell-place-inside), omega (arith, ap (λ x. x.item) e, cell-item-inside))

  pub spots_next : drop p (spots b) ≡ spot_at b p ∷ drop (p + 1) (spots b)
  unfolding spots
  spots_next =
      from_cons (spots b) p (spot_at b 0) (omega (arith, spots-count b))
      ∙ ap (λ s. s ∷ drop (p + 1) (spots b)) (tabulate_at (shape_size b) (spot_at b) (spot_at b 0) p h)

pub spots-end : (b : Shape) (p : ℕ) → shape_size b ≤ p → drop p (spots b) ≡ []
spots-end b p h = drop_of_length-le (spots b) {i = p} (omega (arith, spots-count b))
