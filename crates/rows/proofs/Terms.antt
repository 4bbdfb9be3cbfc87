-- What the rows of a product add to a sum: a number that is, modulo q, the product's coefficient, in the sum's strand.
use Rattle.std.proofs.Common.{◌≡◌, ℕ, zero, suc, ◌+◌, ◌-◌, ◌*◌, ◌%◌, ◌<◌, List, get_or, ℤ, pos, negsuc, ◌*ℤ◌, neg_ℤ, nat_abs, sym, refl, ap, ◌∙◌, arith}
use native.Mathlib.Nat as Nat
use Rattle.protocol.specs.Basic.{sum}
use Rattle.protocol.specs.Element.{Element, modulo, around, rotate, product, signed}
use Rattle.protocol.proofs.Modulo.{modulo_add, modulo_times}
use Rattle.residues.proofs.Around.{around_next, rotate_at}
use Rattle.rows.specs.Rows.{strand, turned, start, total, term}
use Rattle.rows.proofs.Extension.{strand-around}
use Rattle.rows.proofs.Rows.{start-strand}

-- ---- sums of natural numbers

total-residue : (q : ℕ) → 0 < q → (n : ℕ) (f : ℕ → ℕ) (g : ℕ → ℤ) → ((j : ℕ) → j < n → f j % q ≡ modulo q (g j)) → total n f % q ≡ modulo q (sum n g)
unfolding total sum
total-residue q p zero f g h = unfold modulo in refl
total-residue q p (suc n) f g h =
    Nat.add-mod (total n f) (f n) q
    ∙ (λ i. (total-residue q p n f g (λ j l. h j (omega arith)) i + h n (omega arith) i) % q)
    ∙ sym (modulo_add q p (sum n g) (g n))

-- ---- the rows of an element are those of a product

opposite : (n : ℕ) (z : ℤ) → negsuc n *ℤ neg_ℤ z ≡ pos (suc n) *ℤ z
opposite n (pos zero) = ap (λ m. neg_ℤ (pos m)) (Nat.mul-zero (suc n)) ∙ ap pos (sym (Nat.mul-zero (suc n)))
opposite n (pos (suc m)) = refl
opposite n (negsuc m) = refl

module _ (q d : ℕ) (p : 0 < q) (pd : 0 < d) (a : Element) (k : ℕ) (lk : k < d) (j : ℕ) (lj : j < d) where
  ahead : rotate d j a k ≡ around d a (d + d - j + k)
  ahead = rotate_at d j a k (omega arith) ∙ ap (around d a) (omega arith)

  before : rotate d j a k ≡ neg_ℤ (around d a (d - j + k))
  before = ahead ∙ ap (around d a) {y = d - j + k + d} (omega arith) ∙ around_next d a (d - j + k) pd

  by_sign : (z : ℤ) → nat_abs z * modulo q (around d a (start d z j + k)) % q ≡ modulo q (z *ℤ rotate d j a k)
  unfolding start
  by_sign (pos n) = sym (modulo_times q p n (around d a (d + d - j + k))) ∙ ap (λ z. modulo q (pos n *ℤ z)) (sym ahead)
  by_sign (negsuc n) =
      sym (modulo_times q p (suc n) (around d a (d - j + k)))
      ∙ ap (modulo q) (sym (opposite n (around d a (d - j + k))))
      ∙ ap (λ z. modulo q (negsuc n *ℤ z)) (sym before)

-- in each of c strands of a
module _ (q c d : ℕ) (p : 0 < q) (pd : 0 < d) (a : Element) (r k : ℕ) (lr : r < c) (lk : k < d) (f : List ℤ) where
  strand-turned : (y : ℕ) → turned q (d * c) a (y * c + (k * c + r)) ≡ modulo q (around d (strand c r a) (y + k))
  unfolding turned
  strand-turned y = ap (modulo q) (ap (around (d * c) a) {y = (y + k) * c + r} (omega (arith, Nat.add-mul y k c)) ∙ strand-around c d r lr pd a (y + k))

  pub added-residue : total d (term c d f (turned q (d * c) a) (k * c + r)) % q ≡ modulo q (product d (signed f) (strand c r a) k)
  unfolding term product signed
  added-residue = total-residue q p d _ _ (λ j l.
      ap (λ y. nat_abs (get_or f j (pos 0)) * turned q (d * c) a (y + (k * c + r)) % q) (start-strand c d j (omega arith) (get_or f j (pos 0)))
      ∙ ap (λ y. nat_abs (get_or f j (pos 0)) * y % q) (strand-turned (start d (get_or f j (pos 0)) j)) ∙ by_sign q d p pd (strand c r a) k lk j l (get_or f j (pos 0)))
