-- Loops that write a row of an element after the other: to rows by value, and to a flat table.
use mathlib.Core.Path.{◌≡◌, refl, sym, ap, ◌∙◌}
use mathlib.Core.Bool.{Bool, true, false, ◌&&◌}
use mathlib.Core.List.{List}
use Prim.Native.Nat.{ℕ, ◌+◌, ◌*◌, ◌/◌, ◌%◌, ◌<◌, ◌≤◌}
use native.Mathlib.Nat as Nat
use native.Mathlib.Decide.{dec_lt}
use native.Mathlib.Omega.{arith}
use borrow.Author.Tests.{lt-ltb, le-ltb}
use lib.Dec.{ltb}
use lib.ListN.{length, get_or}
use lib.Seq.{ext_get_or}
use Rattle.protocol.specs.declared.Settings.{Settings}
use Rattle.protocol.specs.Basic.{tabulate, choose}
use Rattle.protocol.specs.Element.{width, zeros}
use Rattle.protocol.specs.Layout.{rows_most, rows_width}
use Rattle.protocol.specs.Rows.{at_rows}
use Rattle.protocol.proofs.Reading.{cell-element, cell-place, by_cells, tabulate_at, flat-length, flat_at, flat_ext, flat-own}
use Rattle.residues.specs.Lists.{spliced, spliced_rows}
use Rattle.residues.proofs.Fill.{zeros_at}
use Rattle.residues.proofs.Splice.{spliced-none, spliced-length, spliced-before, spliced-inside, spliced-behind, spliced-twice}
use Rattle.slices.specs.Slices.{values_of, placed}

-- a place below a limit by two tests
both_below : (r n k d : ℕ) → r < n → k < d → (ltb r n && ltb k d) ≡ true
both_below r n k d h l = λ i. lt-ltb r n h i && lt-ltb k d l i

row_past : (r n k d : ℕ) → n ≤ r → (ltb r n && ltb k d) ≡ false
row_past r n k d h = ap (λ b. b && ltb k d) (le-ltb r n h)

place-past : (r n k d : ℕ) → d ≤ k → (ltb r n && ltb k d) ≡ false
place-past r n k d h = ap (λ b. ltb r n && b) (le-ltb k d h) ∙ never (ltb r n)
  where
    never : (b : Bool) → (b && false) ≡ false
    never true = refl
    never false = refl

chosen {ℓ} : {A : Type ℓ} (b : Bool) (x y : A) → b ≡ true → choose b x y ≡ x
unfolding choose
chosen b x y e = ap (λ c. choose c x y) e

other {ℓ} : {A : Type ℓ} (b : Bool) (x y : A) → b ≡ false → choose b x y ≡ y
unfolding choose
other b x y e = ap (λ c. choose c x y) e

-- ---- to rows by value

module _ (d : ℕ) (t l : List ℕ) where
  abbrev entry : ℕ → ℕ → ℕ → ℕ
  entry n r k = choose (ltb r n && ltb k d) (get_or t (r * d + k) 0) (get_or l (r * width + k) 0)

  pub placed-length : (n : ℕ) → length (placed d n t l) ≡ rows_width
  unfolding placed
  placed-length n = flat-length width rows_most _

  placed_at : (n r k : ℕ) → r < rows_most → k < width → get_or (placed d n t l) (r * width + k) 0 ≡ entry n r k
  unfolding placed
  placed_at n r k h m = flat_at width rows_most (entry n) 0 r k h m

  pub placed-none : length l ≡ rows_width → l ≡ placed d 0 t l
  unfolding placed
  placed-none e = sym (flat_ext width rows_most (omega arith) (λ r k h m. other (ltb r 0 && ltb k d) (get_or t (r * d + k) 0) (get_or l (r * width + k) 0) (row_past r 0 k d (omega arith))) ∙ flat-own
      width rows_most l 0 (omega arith) e)

  module _ (n : ℕ) (wide : d ≤ width) (h : n < rows_most) where
    abbrev f : ℕ → ℕ
    f k = get_or t (n * d + k) 0

    room : n * width + d ≤ length (placed d n t l)
    room = omega (arith, placed-length n)

    same : (r k : ℕ) → (ltb r n && ltb k d) ≡ (ltb r (n + 1) && ltb k d) → entry n r k ≡ entry (n + 1) r k
    same r k e = ap (λ b. choose b (get_or t (r * d + k) 0) (get_or l (r * width + k) 0)) e

    one : (r k : ℕ) → r < rows_most → k < width → get_or (spliced f (n * width) d (placed d n t l)) (r * width + k) 0 ≡ entry (n + 1) r k
    one r k hr hk = elim (dec_lt r n) [
      | yes before ↦
          spliced-before f (n * width) d (placed d n t l) (omega (arith, room)) (r * width + k) (omega arith)
          ∙ placed_at n r k hr hk
          ∙ same r k (λ i. (lt-ltb r n before ∙ sym (lt-ltb r (n + 1) (omega arith))) i && ltb k d)
      | no later ↦ elim (dec_lt n r) [
        | yes behind ↦
            spliced-behind f (n * width) d (placed d n t l) (omega (arith, room)) (r * width + k) (omega arith)
            ∙ placed_at n r k hr hk
            ∙ same r k (row_past r n k d (omega arith) ∙ sym (row_past r (n + 1) k d (omega arith)))
        | no here ↦ (
            let is : r ≡ n = omega arith in
            elim (dec_lt k d) [
              | yes written ↦
                  ap (λ x. get_or (spliced f (n * width) d (placed d n t l)) (x * width + k) 0) is
                  ∙ spliced-inside f (n * width) d (placed d n t l) (omega (arith, room)) k written
                  ∙ sym (chosen (ltb r (n + 1) && ltb k d) (get_or t (r * d + k) 0) (get_or l (r * width + k) 0) (both_below r (n + 1) k d (omega arith) written) ∙ ap (λ x. get_or t (x * d + k) 0) is)
              | no left ↦
                  spliced-behind f (n * width) d (placed d n t l) (omega (arith, room)) (r * width + k) (omega arith)
                  ∙ placed_at n r k hr hk
                  ∙ same r k (place-past r n k d (omega arith) ∙ sym (place-past r (n + 1) k d (omega arith)))
            ])
      ]
    ]

    pub placed_more : spliced f (n * width) d (placed d n t l) ≡ placed d (n + 1) t l
    placed_more = ext_get_or 0 _ (placed d (n + 1) t l) (long ∙ placed-length n ∙ sym (placed-length (n + 1))) (λ p m. by_cells width rows_most (omega arith)
        (λ p. get_or (spliced f (n * width) d (placed d n t l)) p 0 ≡ get_or (placed d (n + 1) t l) p 0) (λ r k hr hk. one r k hr hk ∙ sym (placed_at (n + 1) r k hr hk)) p
        (omega (arith, long, placed-length n)))
      where
        long : length (spliced f (n * width) d (placed d n t l)) ≡ length (placed d n t l)
        long = spliced-length f (n * width) d (placed d n t l) (omega (arith, room)) room

-- elements by value are equal by their places in the rows
pub at_rows_ext : (S : Settings) (f g : ℕ → List ℕ) → ((r k : ℕ) → r < S.rows → k < S.degree → get_or (f r) k 0 ≡ get_or (g r) k 0) → at_rows S f ≡ at_rows S g
unfolding at_rows
at_rows_ext S f g e = flat_ext width rows_most (omega arith) (λ r k _ _. elim (dec_lt r S.rows) [
  | no past ↦ other _ (get_or (f r) k 0) 0 (row_past r S.rows k S.degree (omega arith)) ∙ sym (other _ (get_or (g r) k 0) 0 (row_past r S.rows k S.degree (omega arith)))
  | yes inside ↦ elim (dec_lt k S.degree) [
    | yes l ↦ ap (λ x. choose (ltb r S.rows && ltb k S.degree) x 0) (e r k inside l)
    | no behind ↦ other _ (get_or (f r) k 0) 0 (place-past r S.rows k S.degree (omega arith)) ∙ sym (other _ (get_or (g r) k 0) 0 (place-past r S.rows k S.degree (omega arith)))
  ]
])

-- over zeros
pub placed-values : (S : Settings) (t : List ℕ) → placed S.degree S.rows t (zeros rows_width) ≡ values_of S t
unfolding placed values_of at_rows
placed-values S t = flat_ext width rows_most (omega arith) (λ r k h m. elim (dec_lt k S.degree) [
  | yes l ↦ (λ i. choose (ltb r S.rows && ltb k S.degree) (sym (tabulate_at S.degree (λ k. get_or t (r * S.degree + k) 0) 0 k l) i) (zeros_at rows_width (r * width + k) i))
  | no g ↦ other (ltb r S.rows && ltb k S.degree) _ (get_or (zeros rows_width) (r * width + k) 0) (place-past r S.rows k S.degree (omega arith)) ∙ zeros_at rows_width (r * width + k)
      ∙ sym (other (ltb r S.rows && ltb k S.degree) (get_or (tabulate S.degree (λ k. get_or t (r * S.degree + k) 0)) k 0) 0 (place-past r S.rows k S.degree (omega arith)))
])

-- ---- to a flat table

module _ (F : ℕ → ℕ → ℕ) (at d : ℕ) (l : List ℕ) where
  abbrev row : ℕ → ℕ
  row p = F (p / d) (p % d)

  pub rows_none : l ≡ spliced_rows F at d 0 l
  rows_none = spliced-none row at l ∙ ap (λ n. spliced row at n l) (sym (Nat.zero-mul d))

  pub rows_more : (n : ℕ) → at + n * d + d ≤ length l → {f : ℕ → ℕ} → ((k : ℕ) → k < d → f k ≡ F n k) → spliced f (at + n * d) d (spliced_rows F at d n l) ≡ spliced_rows F at d (n + 1) l
  rows_more n h {f} e =
      spliced-twice row f at (n * d) d l h (λ k m. e k m ∙ sym (λ i. F (cell-element d n k m i) (cell-place d n k m i)))
      ∙ ap (λ y. spliced row at y l) (omega (arith, Nat.add-mul n 1 d))
