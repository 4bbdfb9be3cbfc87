-- Sums that stand for an element modulo q: the empty sums, and a product more, by columns, and in all strands by rows, in one run and in two.
use mathlib.Core.Path.{◌≡◌, refl, sym, ap, ◌∙◌, subst}
use mathlib.Core.List.{List}
use Prim.Native.Nat.{ℕ, zero, suc, ◌+◌, ◌*◌, ◌-◌, ◌/◌, ◌%◌, ◌^◌, ◌<◌, ◌≤◌}
use native.Mathlib.Nat as Nat
use native.Mathlib.Numerals.{add-one}
use native.Mathlib.Omega.{arith}
use lib.IntN.{ℤ, pos, nat_abs, ◌+ℤ◌}
use lib.ListN.{length, get_or, take, drop}
use Rattle.algebra.specs.Magnitude.{nat_abs-neg, nat_abs-add, nat_abs_mul}
use Rattle.protocol.specs.Basic.{sum}
use Rattle.protocol.specs.Element.{Element, modulo, flips, around, rotate, plus, product, residue, signed, residue_at, signed_at}
use Rattle.protocol.specs.Opening.{inner}
use Rattle.protocol.proofs.Agreement.{Same, product_same}
use Rattle.protocol.proofs.Reading.{row_inside, cell-inside}
use Rattle.residues.proofs.Parts.{tail_at, tail-length}
use Rattle.residues.proofs.Fill.{filled, filled_at}
use Rattle.columns.specs.Columns.{narrow, add_columns, add_table}
use Rattle.columns.proofs.Words.{word-add}
use Rattle.rows.specs.Rows.{strand, woven, narrowed, add_rows, Prepared}
use Rattle.rows.proofs.Extension.{woven_at}
use Rattle.joins.specs.Sums.{weight, upper_half, Halves}
use Rattle.joins.proofs.Joining.{halves-none, halves-within, halves-lower, halves-add}
use Rattle.joins.proofs.RowHalves.{lower-adds, both_add}
use Rattle.half_sums.specs.Halves.{Small}
use Rattle.product_sums.specs.Sums.{Stands, Columned, Addable, Summable, Zero}

-- ---- one product by columns: where the numbers of f are within ±m it is at most d·m·2^32 from 0

pub sum_most : (n b : ℕ) (f : ℕ → ℤ) → ((i : ℕ) → i < n → nat_abs (f i) ≤ b) → nat_abs (sum n f) ≤ n * b
unfolding sum
sum_most zero b f h = omega arith
sum_most (suc n) b f h = omega (arith, nat_abs-add (sum n f) (f n), sum_most n b f (λ i l. h i (omega arith)), h n (omega arith), Nat.suc-mul n b)

pub flips-size : (n : ℕ) (z : ℤ) → nat_abs (flips n z) ≡ nat_abs z
unfolding flips
flips-size zero z = refl
flips-size (suc n) z = nat_abs-neg (flips n z) ∙ flips-size n z

module _ (d m : ℕ) (pd : 0 < d) (f : List ℤ) (g : List ℕ) (k : ℕ) (small : Small m d f) (below : (j : ℕ) → j < d → get_or g j 0 < 2 ^ 32) where
  turned_most : (i : ℕ) → nat_abs (rotate d i (residue g) k) ≤ 2 ^ 32
  turned_most i = unfold rotate around residue in
      omega (
        arith,
        flips-size ((k + (2 * d - i % (2 * d))) / d) (pos (get_or g ((k + (2 * d - i % (2 * d))) % d) 0)),
        below ((k + (2 * d - i % (2 * d))) % d) (Nat.mod-lt (k + (2 * d - i % (2 * d))) pd),
      )

  product_most : nat_abs (product d (signed f) (residue g) k) ≤ d * (m * weight)
  unfolding product signed
  product_most = sum_most d (m * weight) _ (λ i l. subst (λ n. n ≤ m * weight) (sym (nat_abs_mul (get_or f i (pos 0)) (rotate d i (residue g) k)))
      (Nat.mul-le-mul {n₂ = m} {m₂ = weight} (small i l) (turned_most i)))

  below_same : Same d (narrow g) (residue g)
  unfolding narrow residue
  below_same j l = ap pos (Nat.mod-eq_of_lt (below j l))

  narrow_same : product d (signed f) (narrow g) k ≡ product d (signed f) (residue g) k
  narrow_same = product_same {d = d} pd (λ j _. refl) below_same k

-- ---- a product more, by columns

module _ (q d m : ℕ) (f : List ℤ) (g : List ℕ) (ok : Columned q d m f g) (F : Element) (count : ℕ) (s t : List ℕ) (at : Stands q d F count s t) where
  p : 0 < q
  p = ok.elements.modulus

  pub columns-stand : q < weight → (s' : List ℕ) → s' ≡ add_columns d f g s → Stands q d (plus F (product d (signed f) (residue g))) (count + d * m) s' t
  unfolding plus add_columns
  columns-stand few s' e = record {
    each = λ k l.
        let below : (j : ℕ) → j < d → get_or g j 0 < 2 ^ 32 = λ j lj. omega (arith, ok.residues j lj) in
        let H = at.each k l in
        let y = product d (signed f) (residue g) k in
        halves-within q _ _ _ _ _ (omega (arith, Nat.mul_assoc d m weight)) (
        halves-add q p (F k) y _ (d * (m * weight)) _ _ _ _ (modulo (2 ^ 64) y) 0 H (halves-lower q y (d * (m * weight)) (product_most d m ok.elements.degree f g k ok.small below))
        (ap (λ l. get_or l k 0) e ∙ filled_at _ d s 0 k l ∙ ap (λ z. modulo (2 ^ 64) (pos (get_or s k 0) +ℤ z)) (narrow_same d m ok.elements.degree f g k ok.small below) ∙ sym
        (word-add (get_or s k 0) _ y refl))
        (omega (arith, H.none few)));
  }

-- ---- products more, by rows, in each of c strands

module _ (q c d m : ℕ) (f : List ℤ) (s₀ t₀ : ℕ) (ok : Addable q c d m f s₀ t₀) (F G : ℕ → Element) (count : ℕ) (x s t : List ℕ)
    (ready : Prepared q (d * c) (woven c G) x) (at : Stands q (d * c) (woven c F) count s t) where
  abbrev After : List ℕ → List ℕ → Type 0
  After = Stands q (d * c) (woven c (λ r. plus (F r) (product d (signed f) (G r)))) (count + d * m)

  abbrev More : ℕ → ℕ → ℕ → ℕ → Type 0
  More r k = Halves q (F r k +ℤ product d (signed f) (strand c r (woven c G)) k) (count * 2 ^ 32 + d * (m * weight))

  before : (r k : ℕ) → r < c → k < d → Halves q (F r k) (count * 2 ^ 32) (get_or s (k * c + r) 0) (get_or t (k * c + r) 0)
  before r k lr lk = subst (λ z. Halves q z (count * 2 ^ 32) (get_or s (k * c + r) 0) (get_or t (k * c + r) 0)) (woven_at c r lr F k) (at.each (k * c + r) (cell-inside c d k r lk lr))

  own : (r k : ℕ) → r < c → product d (signed f) (strand c r (woven c G)) k ≡ product d (signed f) (G r) k
  unfolding strand
  own r k lr = product_same {d = d} ok.degree (λ j _. refl) (λ j _. woven_at c r lr G j) k

  all_places : (s' t' : List ℕ) → ((r k : ℕ) → r < c → k < d → More r k (get_or s' (k * c + r) 0) (get_or t' (k * c + r) 0)) → After s' t'
  unfolding woven plus
  all_places s' t' h = record {
    each = λ p l.
        let r = p % c in
        let k = p / c in
        let lr : r < c = Nat.mod-lt p ok.some in
        halves-within q _ _ _ _ _ (omega (arith, Nat.mul_assoc d m weight)) (
        subst (λ n. Halves q (F r k +ℤ product d (signed f) (G r) k) (count * 2 ^ 32 + d * (m * weight)) (get_or s' n 0) (get_or t' n 0)) (Nat.div-add-mod' p c) (
        subst (λ z. Halves q (F r k +ℤ z) (count * 2 ^ 32 + d * (m * weight)) (get_or s' (k * c + r) 0) (get_or t' (k * c + r) 0)) (own r k lr) (h r k lr ((Nat.div-lt_iff_lt-mul ok.some).1 l))));
  }

  pub lower-stand : q < weight → (s' : List ℕ) → s' ≡ add_rows c d f (narrowed x) d s → After s' t
  lower-stand few s' e = all_places s' t (λ r k lr lk.
      lower-adds q c d ok.modulus ok.modulus_most_holds ok.degree (woven c G) f m ok.small x ready (F r k) _ r k s t lr lk (before r k lr lk) few s' e)

  pub both_stand : (x' s' t' : List ℕ) → x' ≡ filled (λ y. upper_half (get_or x y 0)) (3 * (d * c)) x → s' ≡ add_rows c d f (narrowed x) d s → t' ≡ add_rows c d f (narrowed x') d t → After s' t'
  both_stand x' s' t' ex es et = all_places s' t' (λ r k lr lk.
      both_add q c d ok.modulus ok.modulus_most_holds ok.degree (woven c G) f m ok.small x ready (F r k) _ r k s t lr lk (before r k lr lk) x' s' t' ex es et)

-- ---- the sums of an inner product, an element more at a time

pub stands-zero : (q d : ℕ) → 0 < q → (F G : ℕ → Element) (s t : List ℕ) → Zero s → Zero t → Stands q d (inner d 0 F G) 0 s t
unfolding inner sum
stands-zero q d p F G s t zs zt = record { each = λ k l. rw (zs k, zt k) (halves-none q p) }

-- in each of c strands
pub woven-none : (q c d w : ℕ) → 0 < q → (M : ℕ → Element) (K : ℕ → ℕ → Element) (s t : List ℕ) → Zero s → Zero t → Stands q (d * c) (woven c (λ r. inner d 0 M (K r))) (0 * w) s t
unfolding woven inner sum
woven-none q c d w p M K s t zs zt = record { each = λ k l. rw (Nat.zero-mul w, zs k, zt k) (halves-none q p) }

-- each element adds at most w halves
pub stands_first : (q d w : ℕ) (F : Element) (s t : List ℕ) → Stands q d F 0 s t → Stands q d F (0 * w) s t
stands_first q d w F s t = rw (Nat.zero-mul w) (λ at. at)

pub stands_more : (q d w : ℕ) → 0 < d → (F G : ℕ → Element) (i : ℕ) (f : List ℤ) (g s t : List ℕ) → Same d (signed f) (F i) → Same d (residue g) (G i)
    → Stands q d (plus (inner d i F G) (product d (signed f) (residue g))) (i * w + w) s t → Stands q d (inner d (i + 1) F G) ((i + 1) * w) s t
unfolding plus inner sum
stands_more q d w pd F G i f g s t ef eg at = record { each = λ k l. rw (add-one i, Nat.suc-mul i w, ← product_same {d = d} pd ef eg k) (at.each k l) }

-- element i of two tables, as the code lends it
module _ (q d n i : ℕ) (f : List ℤ) (g : List ℕ) (z : Summable q d n f g) (inside : i < n) where
  abbrev part {ℓ} : {A : Type ℓ} → List A → List A
  part l = take (length l - i * d) (drop (i * d) l)

  row : i * d + d ≤ n * d
  row = row_inside d n i inside

  table_columned : Columned q d z.magnitude (part f) (part g)
  table_columned =
      let e = z.elements in
      record {
        elements = record {
          modulus = e.modulus;
          degree = e.degree;
          degree_most = e.degree_most;
          f_long = omega (arith, e.f_long, row, tail-length (i * d) f);
          g_long = omega (arith, e.g_long, row, tail-length (i * d) g);
        };
        small = λ j l. subst (λ y. nat_abs y ≤ z.magnitude) (sym (tail_at (i * d) f j (pos 0))) (z.small (i * d + j) (omega (arith, row)));
        residues = λ j l. subst (λ y. y < q) (sym (tail_at (i * d) g j 0)) (z.residues (i * d + j) (omega (arith, row)));
      }

  table_more : (s t : List ℕ) → Stands q d (plus (inner d i (signed_at d f) (residue_at d g)) (product d (signed (part f)) (residue (part g)))) (i * (d * z.magnitude) + d * z.magnitude) s t
      → Stands q d (inner d (i + 1) (signed_at d f) (residue_at d g)) ((i + 1) * (d * z.magnitude)) s t
  unfolding signed residue signed_at residue_at
  table_more s t = stands_more q d (d * z.magnitude) z.elements.degree (signed_at d f) (residue_at d g) i (part f) (part g) s t
      (λ j _. tail_at (i * d) f j (pos 0)) (λ j _. ap pos (tail_at (i * d) g j 0))

-- the first i elements of two tables, at degree 4
module _ (q n : ℕ) (f : List ℤ) (g : List ℕ) (z : Summable q 4 n f g) (few : q < weight) (s t : List ℕ) (none : Stands q 4 (inner 4 0 (signed_at 4 f) (residue_at 4 g)) 0 s t) where
  pub table_stands : (i : ℕ) → i ≤ n → Stands q 4 (inner 4 i (signed_at 4 f) (residue_at 4 g)) (i * (4 * z.magnitude)) (add_table f g i s) t
  unfolding add_table
  table_stands zero l = stands_first q 4 (4 * z.magnitude) _ s t none
  table_stands (suc i) l =
      subst (λ m. Stands q 4 (inner 4 m (signed_at 4 f) (residue_at 4 g)) (m * (4 * z.magnitude)) (add_table f g (suc i) s) t) (add-one i)
      (table_more q 4 n i f g z l _ t (columns-stand q 4 z.magnitude _ _ (table_columned q 4 n i f g z l) _ _ (add_table f g i s) t (table_stands i (omega arith)) few _ refl))
