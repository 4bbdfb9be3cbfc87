-- The rows of a product, added once with the lower and once with the upper halves of what they read: in each strand the two sums, joined, grow by the product.
use Rattle.std.proofs.Common.{◌≡◌, ℕ, zero, suc, ◌+◌, ◌*◌, ◌%◌, ◌^◌, ◌<◌, ◌≤◌, List, get_or, ℤ, pos, ◌+ℤ◌, ◌*ℤ◌, nat_abs, sym, ap, ◌∙◌, subst, arith}
use native.Mathlib.Nat as Nat
use lib.IntN.{+ℤ_assoc, +ℤ_idr}
use Rattle.protocol.specs.Element.{Element, modulo, product, signed}
use Rattle.protocol.proofs.Modulo.{modulo_add}
use Rattle.protocol.proofs.Reading.{cell-inside}
use Rattle.residues.proofs.Fill.{filled, filled_at}
use Rattle.rows.specs.Rows.{strand, turned, narrowed, add_row, add_rows, total, term, Prepared}
use Rattle.rows.proofs.Rows.{row_at, rows_front}
use Rattle.rows.proofs.Extension.{turned_lt}
use Rattle.rows.proofs.Terms.{added-residue}
use Rattle.joins.specs.Sums.{weight, lower_half, upper_half, Halves}
use Rattle.joins.proofs.Joining.{halves-add, halves_product, halves_same, halves-within}

row_adds : (d m at : ℕ) (y : ℕ → ℕ) (r : List ℕ) (k : ℕ) → k < d → get_or (add_row d m at y r) k 0 ≡ (get_or r k 0 + m * y (at + k) % 2 ^ 64) % 2 ^ 64
row_adds d m at y r k l = row_at m at y d r k l ∙ sym (Nat.add-mod-mod (get_or r k 0) (m * y (at + k)) (2 ^ 64))

-- the rows of f, x being what they read
module _ (q c d : ℕ) (p : 0 < q) (most : q ≤ 2 ^ 61) (f : List ℤ) (x : ℕ → ℕ) (m k : ℕ) (lk : k < d * c) (below : (y : ℕ) → x y < q) where
  abbrev lowers : ℕ → ℕ
  lowers y = lower_half (x y)

  abbrev uppers : ℕ → ℕ
  uppers y = upper_half (x y)

  row_halves : (z : ℤ) (b v j n at : ℕ) (s t : List ℕ) → n ≤ m → Halves q (z +ℤ pos v) (b + j * (m * weight)) (get_or s k 0) (get_or t k 0)
      → Halves q (z +ℤ pos (v + n * x (at + k))) (b + suc j * (m * weight)) (get_or (add_row (d * c) n at lowers s) k 0) (get_or (add_row (d * c) n at uppers t) k 0)
  row_halves z b v j n at s t small H =
      halves-within q _ (b + j * (m * weight) + m * weight) _ _ _ (omega arith)
      (halves_same q (z +ℤ pos v +ℤ pos n *ℤ pos (x (at + k))) _ _ _ _ (ap (modulo q) (+ℤ_assoc z (pos v) (pos (n * x (at + k)))))
      (halves-add q p (z +ℤ pos v) (pos n *ℤ pos (x (at + k))) _ (m * weight) (get_or s k 0) (get_or t k 0) _ _ (n * lowers (at + k) % 2 ^ 64) (n * uppers (at + k) % 2 ^ 64) H
      (unfold modulo in halves_product q (pos n) (x (at + k)) m most small (Nat.le_of_lt (below (at + k)))) (row_adds (d * c) n at lowers s k lk) (row_adds (d * c) n at uppers t k lk)))

  rows_halves : (z : ℤ) (b : ℕ) (s t : List ℕ) → Halves q z b (get_or s k 0) (get_or t k 0) → (n : ℕ) → ((j : ℕ) → j < n → nat_abs (get_or f j (pos 0)) ≤ m)
      → Halves q (z +ℤ pos (total n (term c d f x k))) (b + n * (m * weight)) (get_or (add_rows c d f lowers n s) k 0) (get_or (add_rows c d f uppers n t) k 0)
  unfolding add_rows total term
  rows_halves z b s t H zero small = rw (+ℤ_idr z, Nat.zero-mul (m * weight), Nat.add-zero b) H
  rows_halves z b s t H (suc n) small = row_halves z b _ n _ _ _ _ (small n (omega arith)) (rows_halves z b s t H n (λ j l. small j (omega arith)))

-- the same for an element's own rows, x being where it is prepared: number k of its strand r
module _ (q c d : ℕ) (p : 0 < q) (most : q ≤ 2 ^ 61) (pd : 0 < d) (a : Element) (f : List ℤ) (m : ℕ) (small : (j : ℕ) → j < d → nat_abs (get_or f j (pos 0)) ≤ m)
    (x : List ℕ) (ready : Prepared q (d * c) a x) (z : ℤ) (b r k : ℕ) (s t : List ℕ) (lr : r < c) (lk : k < d) (H : Halves q z b (get_or s (k * c + r) 0) (get_or t (k * c + r) 0)) where
  abbrev Sums : ℕ → ℕ → Type 0
  Sums = Halves q (z +ℤ product d (signed f) (strand c r a) k) (b + d * (m * weight))

  pc : 0 < d * c
  pc = Nat.mul-pos pd (omega arith)

  abbrev place : ℕ
  place = k * c + r

  both : Sums (get_or (add_rows c d f (λ y. lower_half (turned q (d * c) a y)) d s) place 0) (get_or (add_rows c d f (λ y. upper_half (turned q (d * c) a y)) d t) place 0)
  unfolding modulo
  both = halves_same q _ (z +ℤ product d (signed f) (strand c r a) k) _ _ _
      (modulo_add q p z (pos (total d (term c d f (turned q (d * c) a) place)))
      ∙ ap (λ y. (modulo q z + y) % q) (added-residue q c d p pd a r k lr lk f)
      ∙ sym (modulo_add q p z (product d (signed f) (strand c r a) k)))
      (rows_halves q c d p most f (turned q (d * c) a) m place (cell-inside c d k r lk lr) (turned_lt q (d * c) p pc a) z b s t H d small)

  lower-run : get_or (add_rows c d f (λ y. lower_half (turned q (d * c) a y)) d s) place 0 ≡ get_or (add_rows c d f (narrowed x) d s) place 0
  lower-run = ap (λ l. get_or l place 0) (sym (rows_front c d f _ _ (λ y l. ap lower_half (ready.each y l)) d s))

  first : (s' : List ℕ) → s' ≡ add_rows c d f (narrowed x) d s → Sums (get_or s' place 0) (get_or (add_rows c d f (λ y. upper_half (turned q (d * c) a y)) d t) place 0)
  first s' es = subst (λ n. Sums n (get_or (add_rows c d f (λ y. upper_half (turned q (d * c) a y)) d t) place 0)) (lower-run ∙ sym (ap (λ l. get_or l place 0) es)) both

  -- a modulus of 32 bits has no upper halves
  pub lower-adds : q < weight → (s' : List ℕ) → s' ≡ add_rows c d f (narrowed x) d s → Sums (get_or s' place 0) (get_or t place 0)
  lower-adds few s' es = subst (Sums (get_or s' place 0)) (both.none few ∙ sym (H.none few)) (first s' es)

  -- the second run reads the upper halves, which stand where the element stood
  pub both_add : (x' s' t' : List ℕ) → x' ≡ filled (λ y. upper_half (get_or x y 0)) (3 * (d * c)) x → s' ≡ add_rows c d f (narrowed x) d s → t' ≡ add_rows c d f (narrowed x') d t
      → Sums (get_or s' place 0) (get_or t' place 0)
  both_add x' s' t' ex es et = subst (Sums (get_or s' place 0)) (ap (λ l. get_or l place 0) (upper-run ∙ sym et)) (first s' es)
    where
      upper-run : add_rows c d f (λ y. upper_half (turned q (d * c) a y)) d t ≡ add_rows c d f (narrowed x') d t
      upper-run = sym (rows_front c d f _ _ (λ y l.
          ap (λ n. n % 2 ^ 32) (ap (λ l. get_or l y 0) ex ∙ filled_at _ (3 * (d * c)) x 0 y l ∙ ap upper_half (ready.each y l)) ∙ Nat.mod-eq_of_lt (omega (arith, turned_lt q (d * c) p pc a y))) d t)
