-- Values of the definitions' elements. At an x whose power d is −1 the value of a product is the product of the values, so sums of products may be taken
-- place by place; and what comes back from the transform is read as a residue. Rests on Transform of algebra and on Roots of powers.
use Rattle.std.proofs.Common.{◌≡◌, ℕ, zero, suc, ◌-◌, ◌*◌, ◌/◌, ◌%◌, ◌^◌, ◌<◌, ◌≤◌, ℤ, pos, negsuc, ◌+ℤ◌, sym, refl, ap, ◌∙◌, arith}
use native.Mathlib.Nat as Nat
use Rattle.algebra.specs.Ring.{CommRing, two, pow}
use Rattle.algebra.specs.Sum as Σ
use Rattle.algebra.specs.Hom.{on_neg, on_sum}
use Rattle.algebra.specs.Integers.{ℤ-ring, ints, fromℤ, ofℤ, ofℕ_two, ofℕ-pow}
use Rattle.algebra.specs.Residues.{res-inj, res-mod, res-mul, res_one, ofℕ-res, ofℤ-pos, ofℤ-negsuc}
use Rattle.algebra.specs.Solver.{◌⊗◌ as ◌:*◌, ◌≐◌, ring}
use Rattle.algebra.specs.Transform.{value, value_ext, value-add, value-mul, value-sum, value-turn}
use Rattle.protocol.specs.Basic.{sum, every}
use Rattle.protocol.specs.Element.{Element, modulo, around, rotate, product, plus}
use Rattle.protocol.specs.Opening.{inner}
use Rattle.protocol.proofs.Rotation.{around_first, around_next, rotate_at}
use Rattle.protocol.proofs.Modulo.{modulo-lt}
use Rattle.powers.specs.Powers.{modulus, positive, K, res, root}
use Rattle.powers.proofs.Roots.{root-turn, at_degrees}
use Rattle.transform.specs.Strands.{value_at}

-- the definitions' sum is the sum in the ring of the integers
sum_ring : (n : ℕ) (f : ℕ → ℤ) → sum n f ≡ Σ.sum ℤ-ring n f
unfolding sum Σ.sum
sum_ring zero f = refl
sum_ring (suc n) f = ap (λ t. t +ℤ f n) (sum_ring n f)

module _ (R : CommRing) where
  open R use {C, 1#, add as ◌⊕◌, mul as ◌⊗◌, neg as ⊖◌}

  infixl 60 ◌⊕◌
  infixl 70 ◌⊗◌
  infix 80 ⊖◌
  sum_of : (n : ℕ) (f : ℕ → ℤ) → ofℤ R (sum n f) ≡ Σ.sum R n (λ i. ofℤ R (f i))
  sum_of n f = ap (ofℤ R) (sum_ring n f) ∙ on_sum (fromℤ R) n f

  -- the value of an element at x
  abbrev of : ℕ → Element → C → C
  of d a x = value R d (λ k. ofℤ R (a k)) x

  pub value-plus : (d : ℕ) (a b : Element) (x : C) → of d (plus a b) x ≡ of d a x ⊕ of d b x
  unfolding plus
  value-plus d a b x = value_ext R d x (λ k _. (fromℤ R).on_add (a k) (b k)) ∙ value-add R d _ _ x

  module _ (d : ℕ) (p : 0 < d) (x : C) (turn : pow R x d ≡ ⊖ 1#) where
    value-rotate : (e : ℕ) → e < d → (a : Element) → of d (rotate d e a) x ≡ pow R x e ⊗ of d a x
    value-rotate e h a =
        value_ext R d x (λ k _. ap (ofℤ R) (rotate_at d e a k (omega arith)))
        ∙ value-turn R d x turn (λ k. ofℤ R (around d a k)) (λ k. ap (ofℤ R) (around_next d a k p) ∙ on_neg (fromℤ R) _) e (omega arith)
        ∙ ap (λ t. pow R x e ⊗ t) (value_ext R d x (λ k l. ap (ofℤ R) (around_first d a k l)))

    pub value-product : (a b : Element) → of d (product d a b) x ≡ of d a x ⊗ of d b x
    unfolding product
    value-product a b =
        value_ext R d x (λ k _. sum_of d _ ∙ Σ.sum-ext R d (λ i _. (fromℤ R).on_mul (a i) (rotate d i b k)))
        ∙ value-sum R d d (λ i k. ofℤ R (a i) ⊗ ofℤ R (rotate d i b k)) x
        ∙ Σ.sum-ext R d (λ i h. value-mul R d (ofℤ R (a i)) _ x ∙ ap (λ t. ofℤ R (a i) ⊗ t) (value-rotate i h b)
        ∙ ring R (ints R) 3 (λ c r v. c :* (r :* v) ≐ v :* (c :* r)) tt (ofℤ R (a i)) (pow R x i) (of d b x))
        ∙ Σ.sum-mul R d (of d b x) _
        ∙ R.mul_comm (of d b x) _
        ∙ ap (λ t. t ⊗ of d b x) (unfold value in refl)

    pub value-inner : (n : ℕ) (F G : ℕ → Element) → of d (inner d n F G) x ≡ Σ.sum R n (λ i. of d (F i) x ⊗ of d (G i) x)
    unfolding inner
    value-inner n F G =
        value_ext R d x (λ k _. sum_of n (λ i. product d (F i) (G i) k))
        ∙ value-sum R d n (λ i k. ofℤ R (product d (F i) (G i) k)) x
        ∙ Σ.sum-ext R n (λ i _. value-product (F i) (G i))

-- ---- at the roots of the places

pub value_at-plus : (D : ℕ) (a b : Element) (j : ℕ) → value_at D (plus a b) j ≡ K.add (value_at D a j) (value_at D b j)
unfolding value_at
value_at-plus D a b j = value-plus K (2 ^ D) a b (root D 128 j)

pub value_at-inner : (D n : ℕ) → D ≤ 7 → (F G : ℕ → Element) (j : ℕ) → j < 2 ^ D → value_at D (inner (2 ^ D) n F G) j ≡ Σ.sum K n (λ i. K.mul (value_at D (F i) j) (value_at D (G i) j))
unfolding value_at
value_at-inner D n h F G j l = value-inner K (2 ^ D) (Nat.one-le-pow D 2 (omega arith)) (root D 128 j) (root-turn D j h l) n F G

-- ---- what comes back

pub ofℤ-modulo : (z : ℤ) → ofℤ K z ≡ res (modulo modulus z)
unfolding modulo
ofℤ-modulo (pos n) = ofℤ-pos modulus positive n
ofℤ-modulo (negsuc n) = ofℤ-negsuc modulus positive n

-- a number below 12289 that stands for z is z modulo 12289
pub recovered : (r : ℕ) (z : ℤ) → r < modulus → res r ≡ ofℤ K z → r ≡ modulo modulus z
recovered r z l e = res-inj modulus positive l (modulo-lt modulus positive z) (e ∙ ofℤ-modulo z)

two_power : (D : ℕ) → pow K (two K) D ≡ res (2 ^ D)
two_power D = ap (λ t. pow K t D) (sym (ofℕ_two K)) ∙ sym (ofℕ-pow K 2 D) ∙ ofℕ-res modulus positive (2 ^ D)

-- 12289 − 12288/d is the inverse of d
pub by_degree : (D : ℕ) → D ≤ 7 → K.mul (res (12289 - 12288 / 2 ^ D)) (pow K (two K) D) ≡ K.1#
by_degree D h =
    ap (K.mul _) (two_power D)
    ∙ sym (res-mul modulus positive _ _)
    ∙ sym (res-mod modulus positive _)
    ∙ ap res (at_degrees (λ D. (12289 - 12288 / 2 ^ D) * 2 ^ D % modulus) (λ _. 1) (unfold every in refl) D h)
    ∙ res_one modulus positive
