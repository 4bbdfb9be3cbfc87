-- One node of a tree over a commutative ring: what weights m₁, m₂, m₃ with Σ m = 4, Σ m·r = 0, Σ m·r² = 4 make of its claims, of inner products and of folds. Each step is a certificate of the solver.
--   Balanced K m₁ m₂ m₃ r₁ r₂ r₃   the weights m have these sums at the challenges r
use mathlib.Core.Path.{◌≡◌, sym, ap, ap₂, ◌∙◌}
use Prim.Native.Nat.{ℕ, suc, ◌^◌}
use native.Mathlib.Nat as Nat
use lib.IntN.{pos}
use Rattle.algebra.specs.Ring.{CommRing, two}
use Rattle.algebra.specs.Integers.{ints, ofℕ, ofℕ-mul, ofℕ_two}
use Rattle.algebra.specs.Inner.{inner, add-inner, mul-inner, inner-add, inner-mul}
use Rattle.algebra.specs.Solver.{con, neg, ◌⊕◌ as ◌:+◌, ◌⊗◌ as ◌:*◌, ◌≐◌, ring, Expr}
use Rattle.algebra.specs.Certificate.{◌·⟨◌⟩◌, ◌⇐◌, done, combine}

abbrev two_e : Expr
two_e = con (pos 2)

-- 4^(h+1) in a ring
pub four-power : (K : CommRing) (h : ℕ) → ofℕ K (4 ^ suc h) ≡ K.mul (ofℕ K (4 ^ h)) (K.mul (two K) (two K))
four-power K h = ap (ofℕ K) (Nat.pow-suc 4 h) ∙ ofℕ-mul K (4 ^ h) 4 ∙ ap (K.mul (ofℕ K (4 ^ h))) (ofℕ-mul K 2 2 ∙ λ i. K.mul (ofℕ_two K i) (ofℕ_two K i))

module _ (K : CommRing) where
  open K use {C, 0#, 1#, add as ◌⊕◌, mul as ◌⊗◌}

  infixl 60 ◌⊕◌
  infixl 70 ◌⊗◌
  -- what holds of the weights m and the challenges r of a node
  pub record Balanced (m₁ m₂ m₃ r₁ r₂ r₃ : C) : Type 0 where
    pub sum_four : m₁ ⊕ m₂ ⊕ m₃ ≡ two K ⊗ two K
    pub lin_zero : m₁ ⊗ r₁ ⊕ m₂ ⊗ r₂ ⊕ m₃ ⊗ r₃ ≡ 0#
    pub quad_four : m₁ ⊗ (r₁ ⊗ r₁) ⊕ m₂ ⊗ (r₂ ⊗ r₂) ⊕ m₃ ⊗ (r₃ ⊗ r₃) ≡ two K ⊗ two K

  -- ---- ⟨Σ m_j v_j, G0⟩ + ⟨Σ r_j m_j v_j, G1⟩ = Σ m_j ⟨v_j, G0 + r_j G1⟩

  inner_three : (n : ℕ) (x y z : C) (u v w G : ℕ → C) → inner K n (λ i. x ⊗ u i ⊕ y ⊗ v i ⊕ z ⊗ w i) G ≡ x ⊗ inner K n u G ⊕ y ⊗ inner K n v G ⊕ z ⊗ inner K n w G
  inner_three n x y z u v w G = add-inner K n _ _ G ∙ ap₂ ◌⊕◌ (add-inner K n _ _ G ∙ ap₂ ◌⊕◌ (mul-inner K n x u G) (mul-inner K n y v G)) (mul-inner K n z w G)

  inner_folded : (n : ℕ) (r : C) (v G H : ℕ → C) → inner K n v (λ i. G i ⊕ r ⊗ H i) ≡ inner K n v G ⊕ r ⊗ inner K n v H
  inner_folded n r v G H = inner-add K n v G _ ∙ ap (λ t. inner K n v G ⊕ t) (inner-mul K n r v H)

  module _ (n : ℕ) (m₁ m₂ m₃ r₁ r₂ r₃ : C) (u v w G H : ℕ → C) where
    pub inner_mixed :
        inner K n (λ i. m₁ ⊗ u i ⊕ m₂ ⊗ v i ⊕ m₃ ⊗ w i) G ⊕ inner K n (λ i. r₁ ⊗ (m₁ ⊗ u i) ⊕ r₂ ⊗ (m₂ ⊗ v i) ⊕ r₃ ⊗ (m₃ ⊗ w i)) H
        ≡ m₁ ⊗ inner K n u (λ i. G i ⊕ r₁ ⊗ H i) ⊕ m₂ ⊗ inner K n v (λ i. G i ⊕ r₂ ⊗ H i) ⊕ m₃ ⊗ inner K n w (λ i. G i ⊕ r₃ ⊗ H i)
    inner_mixed =
        ap₂ ◌⊕◌ (inner_three n m₁ m₂ m₃ u v w G) (inner_three n r₁ r₂ r₃ _ _ _ H ∙ λ i. r₁ ⊗ mul-inner K n m₁ u H i ⊕ r₂ ⊗ mul-inner K n m₂ v H i ⊕ r₃ ⊗ mul-inner K n m₃ w H i)
        ∙ ring K (ints K) 12
        (λ m₁ m₂ m₃ r₁ r₂ r₃ a b c d e f. m₁ :* a :+ m₂ :* b :+ m₃ :* c :+ (r₁ :* (m₁ :* d) :+ r₂ :* (m₂ :* e) :+ r₃ :* (m₃ :* f))
        ≐ m₁ :* (a :+ r₁ :* d) :+ m₂ :* (b :+ r₂ :* e) :+ m₃ :* (c :+ r₃ :* f)) tt
        m₁ m₂ m₃ r₁ r₂ r₃ _ _ _ _ _ _
        ∙ λ i. m₁ ⊗ sym (inner_folded n r₁ u G H) i ⊕ m₂ ⊗ sym (inner_folded n r₂ v G H) i ⊕ m₃ ⊗ sym (inner_folded n r₃ w G H) i

  -- ---- claims: F 4 claim = H Σ m_j I_j, from 2 (c0 + c2) = claim, p_j = c0 + r_j c1 + r_j² c2, F p_j = H h I_j and 2 h = 1

  module _ {m₁ m₂ m₃ r₁ r₂ r₃ : C} (W : Balanced m₁ m₂ m₃ r₁ r₂ r₃) where
    pub climb : (F H h claim c0 c1 c2 I₁ I₂ I₃ : C)
        → two K ⊗ (c0 ⊕ c2) ≡ claim
        → F ⊗ (c0 ⊕ r₁ ⊗ c1 ⊕ r₁ ⊗ (r₁ ⊗ c2)) ≡ H ⊗ h ⊗ I₁ → F ⊗ (c0 ⊕ r₂ ⊗ c1 ⊕ r₂ ⊗ (r₂ ⊗ c2)) ≡ H ⊗ h ⊗ I₂ → F ⊗ (c0 ⊕ r₃ ⊗ c1 ⊕ r₃ ⊗ (r₃ ⊗ c2)) ≡ H ⊗ h ⊗ I₃
        → two K ⊗ h ≡ 1#
        → F ⊗ (two K ⊗ two K) ⊗ claim ≡ H ⊗ (m₁ ⊗ I₁ ⊕ m₂ ⊗ I₂ ⊕ m₃ ⊗ I₃)
    unfolding two
    climb F H h claim c0 c1 c2 I₁ I₂ I₃ e e₁ e₂ e₃ half = combine K (ints K) 16 (λ m₁ m₂ m₃ r₁ r₂ r₃ F H h claim c0 c1 c2 I₁ I₂ I₃.
        F :* (two_e :* two_e) :* claim ≐ H :* (m₁ :* I₁ :+ m₂ :* I₂ :+ m₃ :* I₃)
        ⇐ neg (con (pos 4) :* F) ·⟨ two_e :* (c0 :+ c2) ≐ claim ⟩
        (two_e :* m₁) ·⟨ F :* (c0 :+ r₁ :* c1 :+ r₁ :* (r₁ :* c2)) ≐ H :* h :* I₁ ⟩
        (two_e :* m₂) ·⟨ F :* (c0 :+ r₂ :* c1 :+ r₂ :* (r₂ :* c2)) ≐ H :* h :* I₂ ⟩
        (two_e :* m₃) ·⟨ F :* (c0 :+ r₃ :* c1 :+ r₃ :* (r₃ :* c2)) ≐ H :* h :* I₃ ⟩
        (H :* (m₁ :* I₁ :+ m₂ :* I₂ :+ m₃ :* I₃)) ·⟨ two_e :* h ≐ con (pos 1) ⟩
        neg (two_e :* F :* c0) ·⟨ m₁ :+ m₂ :+ m₃ ≐ two_e :* two_e ⟩
        neg (two_e :* F :* c1) ·⟨ m₁ :* r₁ :+ m₂ :* r₂ :+ m₃ :* r₃ ≐ con (pos 0) ⟩
        neg (two_e :* F :* c2) ·⟨ m₁ :* (r₁ :* r₁) :+ m₂ :* (r₂ :* r₂) :+ m₃ :* (r₃ :* r₃) ≐ two_e :* two_e ⟩ done) tt
        m₁ m₂ m₃ r₁ r₂ r₃ F H h claim c0 c1 c2 I₁ I₂ I₃ e e₁ e₂ e₃ half W.sum_four W.lin_zero W.quad_four

    -- ---- folds: Σ m_j v_j = 4 F A and Σ r_j m_j v_j = 4 F B, from v_j = F (A + r_j B)

    module _ (F A B v₁ v₂ v₃ : C) (e₁ : v₁ ≡ F ⊗ (A ⊕ r₁ ⊗ B)) (e₂ : v₂ ≡ F ⊗ (A ⊕ r₂ ⊗ B)) (e₃ : v₃ ≡ F ⊗ (A ⊕ r₃ ⊗ B)) where
      pub unfold_low : m₁ ⊗ v₁ ⊕ m₂ ⊗ v₂ ⊕ m₃ ⊗ v₃ ≡ F ⊗ (two K ⊗ two K) ⊗ A
      unfolding two
      unfold_low = combine K (ints K) 12 (λ m₁ m₂ m₃ r₁ r₂ r₃ F A B v₁ v₂ v₃.
          m₁ :* v₁ :+ m₂ :* v₂ :+ m₃ :* v₃ ≐ F :* (two_e :* two_e) :* A
          ⇐ m₁ ·⟨ v₁ ≐ F :* (A :+ r₁ :* B) ⟩ m₂ ·⟨ v₂ ≐ F :* (A :+ r₂ :* B) ⟩ m₃ ·⟨ v₃ ≐ F :* (A :+ r₃ :* B) ⟩
          (F :* A) ·⟨ m₁ :+ m₂ :+ m₃ ≐ two_e :* two_e ⟩
          (F :* B) ·⟨ m₁ :* r₁ :+ m₂ :* r₂ :+ m₃ :* r₃ ≐ con (pos 0) ⟩ done) tt
          m₁ m₂ m₃ r₁ r₂ r₃ F A B v₁ v₂ v₃ e₁ e₂ e₃ W.sum_four W.lin_zero

      pub unfold_high : r₁ ⊗ (m₁ ⊗ v₁) ⊕ r₂ ⊗ (m₂ ⊗ v₂) ⊕ r₃ ⊗ (m₃ ⊗ v₃) ≡ F ⊗ (two K ⊗ two K) ⊗ B
      unfolding two
      unfold_high = combine K (ints K) 12 (λ m₁ m₂ m₃ r₁ r₂ r₃ F A B v₁ v₂ v₃.
          r₁ :* (m₁ :* v₁) :+ r₂ :* (m₂ :* v₂) :+ r₃ :* (m₃ :* v₃) ≐ F :* (two_e :* two_e) :* B
          ⇐ (r₁ :* m₁) ·⟨ v₁ ≐ F :* (A :+ r₁ :* B) ⟩ (r₂ :* m₂) ·⟨ v₂ ≐ F :* (A :+ r₂ :* B) ⟩ (r₃ :* m₃) ·⟨ v₃ ≐ F :* (A :+ r₃ :* B) ⟩
          (F :* A) ·⟨ m₁ :* r₁ :+ m₂ :* r₂ :+ m₃ :* r₃ ≐ con (pos 0) ⟩
          (F :* B) ·⟨ m₁ :* (r₁ :* r₁) :+ m₂ :* (r₂ :* r₂) :+ m₃ :* (r₃ :* r₃) ≐ two_e :* two_e ⟩ done) tt
          m₁ m₂ m₃ r₁ r₂ r₃ F A B v₁ v₂ v₃ e₁ e₂ e₃ W.lin_zero W.quad_four
