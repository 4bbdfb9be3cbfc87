-- Single residues: negatives and differences.
use Rattle.std.proofs.Common.{◌≡◌, ℕ, zero, suc, ◌+◌, ◌-◌, ◌%◌, ◌<◌, ◌≤◌, ℤ, pos, ◌+ℤ◌, neg_ℤ, sym, ap, ◌∙◌, arith}
use native.Mathlib.Nat as Nat
use Rattle.protocol.specs.Element.{modulo}
use Rattle.protocol.proofs.Modulo.{modulo_add, modulo-lt, modulo_neg, modulo_residue}

-- by a number between
pub by : (y : ℕ) {x z : ℕ} → x ≡ y → y ≡ z → x ≡ z
by y e h = e ∙ h

module _ (q : ℕ) (p : 0 < q) where
  pub negative-none : 0 ≡ modulo q (neg_ℤ (pos 0))
  unfolding modulo
  negative-none = sym (Nat.zero-mod q)

  pub negative-residue : (y : ℕ) → 0 < y → y < q → q - y ≡ modulo q (neg_ℤ (pos y))
  unfolding modulo
  negative-residue y h l = sym (modulo_neg q p (pos y) ∙ ap (λ z. (q - z) % q) (Nat.mod-eq_of_lt l) ∙ Nat.mod-eq_of_lt (omega arith))

  pub negative-again : (z : ℤ) → modulo q (neg_ℤ (pos (modulo q z))) ≡ modulo q (neg_ℤ z)
  negative-again z =
      modulo_neg q p (pos (modulo q z))
      ∙ ap (λ n. (q - n) % q) (modulo_residue q p (modulo q z) (modulo-lt q p z))
      ∙ sym (modulo_neg q p z)

  -- differences
  pub minus-below : (x y : ℕ) → x < y → y < q → x + (q - y) ≡ modulo q (pos x +ℤ neg_ℤ (pos y))
  minus-below x y h l =
      sym
      (modulo_add q p (pos x) (neg_ℤ (pos y))
      ∙ (λ i. (modulo_residue q p x (omega arith) i + sym (negative-residue y (omega arith) l) i) % q)
      ∙ Nat.mod-eq_of_lt (omega arith))

  pub minus-above : (x y : ℕ) → y ≤ x → x < q → x - y ≡ modulo q (pos x +ℤ neg_ℤ (pos y))
  minus-above x zero h l =
      sym (modulo_add q p (pos x) (neg_ℤ (pos 0)) ∙ (λ i. (modulo_residue q p x l i + sym negative-none i) % q) ∙ ap (λ n. n % q) (Nat.add-zero x) ∙ Nat.mod-eq_of_lt l ∙ sym (Nat.sub-zero x))
  minus-above x (suc y) h l =
      sym
      (modulo_add q p (pos x) (neg_ℤ (pos (suc y)))
      ∙ (λ i. (modulo_residue q p x l i + sym (negative-residue (suc y) (omega arith) (omega arith)) i) % q)
      ∙ Nat.mod-eq-sub-mod {n = x + (q - suc y)} {m = q} (omega arith)
      ∙ Nat.mod-eq_of_lt (omega arith)
      ∙ omega arith)
