-- The elements of the definitions as elements of the ring of degree d over a ring K: the bridge from coefficients to algebra.
-- Each definition of specs/Element and the inner product has one law here, for every K. Over the integers an element is known by its places below d; over ℤ/q by these modulo q.
--   read K d p a    the element a of the definitions, in K[X]/(X^d + 1); only its places below d matter
--   readℤ, readq    the same over the integers and over ℤ/q
use mathlib.Core.Path.{◌≡◌, refl, sym, ap, ap₂, ◌∙◌}
use mathlib.Core.List.{List}
use Prim.Native.Nat.{ℕ, zero, suc, ◌<◌}
use native.Mathlib.Nat as Nat
use native.Mathlib.Numerals.{add-one}
use native.Mathlib.Omega.{arith}
use lib.ListN.{get_or}
use lib.IntN.{ℤ, pos, negsuc}
use Rattle.algebra.specs.Ring as R
use Rattle.algebra.specs.Ring.{CommRing}
use Rattle.algebra.specs.Sum as Σ
use Rattle.algebra.specs.Hom.{Hom, identity, on_zero, on_neg}
use Rattle.algebra.specs.Integers.{ℤ-ring, fromℤ, ofℤ, ofℕ, ofℕ-zero, ofℕ-suc}
use Rattle.algebra.specs.Residues.{Zmod, rep, res, rep-res, ofℤ-pos, ofℤ-negsuc}
use Rattle.algebra.specs.Negacyclic as N
use Rattle.algebra.specs.Negacyclic.{negacyclic, coef, poly, ext, coef_poly, coef_poly_any, turn, X^}
use Rattle.algebra.specs.Induced.{negacyclic_on, coef_on}
use Rattle.algebra.specs.Scalars.{coef_ofℕ}
use Rattle.algebra.specs.Inner as I
use Rattle.protocol.specs.Basic as B
use Rattle.protocol.specs.Element.{Element, modulo, flips, around, rotate, product, one, power, plus, times, residue, reduced}
use Rattle.protocol.specs.Opening.{inner}
use Rattle.protocol.proofs.Modulo.{reduced_at, modulo-lt, modulo_residue}

module _ (K : CommRing) (d : ℕ) (p : 0 < d) where
  abbrev KX : CommRing
  KX = negacyclic K d p

  open K use {C, add as ◌⊕◌, mul as ◌⊗◌, neg as ⊖◌}
  open negacyclic K d p use {C as E, 1# as 1ᴱ, add as ◌⊞◌, mul as ◌⊠◌}

  infixl 60 ◌⊕◌ ◌⊞◌
  infixl 70 ◌⊗◌ ◌⊠◌
  infix 80 ⊖◌
  unfoldable pub read : Element → E
  read a = poly K d p (λ k. ofℤ K (a k))

  pub coef_read : (a : Element) (k : ℕ) → k < d → coef K d p (read a) k ≡ ofℤ K (a k)
  unfolding read
  coef_read a k l = coef_poly K d p _ k l

  pub read_ext : {a b : Element} → ((k : ℕ) → k < d → a k ≡ b k) → read a ≡ read b
  read_ext e = ext K d p (λ k l. coef_read _ k l ∙ ap (ofℤ K) (e k l) ∙ sym (coef_read _ k l))

  -- ---- sums

  pub read-plus : (a b : Element) → read (plus a b) ≡ read a ⊞ read b
  unfolding plus
  read-plus a b = ext K d p (λ k l. coef_read _ k l ∙ (fromℤ K).on_add _ _ ∙ sym (N.coef-add K d p _ _ k ∙ ap₂ ◌⊕◌ (coef_read a k l) (coef_read b k l)))

  sum_on : (n : ℕ) (f : ℕ → ℤ) → ofℤ K (B.sum n f) ≡ Σ.sum K n (λ i. ofℤ K (f i))
  unfolding B.sum Σ.sum
  sum_on zero f = ofℕ-zero K
  sum_on (suc n) f = (fromℤ K).on_add _ _ ∙ ap (λ t. t ⊕ ofℤ K (f n)) (sum_on n f)

  pub read-sum : (n : ℕ) (F : ℕ → Element) → read (λ k. B.sum n (λ i. F i k)) ≡ Σ.sum KX n (λ i. read (F i))
  read-sum n F = ext K d p (λ k l. coef_read _ k l ∙ sum_on n _ ∙ Σ.sum-ext K n (λ i _. sym (coef_read (F i) k l)) ∙ sym (N.coef-sum K d p n _ k))

  -- ---- a number times an element

  coef_scale : (z : ℤ) (x : E) (k : ℕ) → coef K d p (ofℤ KX z ⊠ x) k ≡ ofℤ K z ⊗ coef K d p x k
  coef_scale (pos n) x k = coef_ofℕ K d p n x k
  coef_scale (negsuc n) x k =
      ap (λ t. coef K d p t k) (ap (λ t. t ⊠ x) (on_neg (fromℤ KX) (pos (suc n))) ∙ R.neg-mul KX _ x)
      ∙ N.coef-neg K d p _ k
      ∙ ap ⊖◌ (coef_ofℕ K d p (suc n) x k)
      ∙ sym (ap (λ t. t ⊗ coef K d p x k) (on_neg (fromℤ K) (pos (suc n))) ∙ R.neg-mul K _ _)

  pub read-times : (z : ℤ) (a : Element) → read (times z a) ≡ ofℤ KX z ⊠ read a
  unfolding times
  read-times z a = ext K d p (λ k l. coef_read _ k l ∙ (fromℤ K).on_mul _ _ ∙ sym (coef_scale z (read a) k ∙ ap (λ t. ofℤ K z ⊗ t) (coef_read a k l)))

  pub read_one : read one ≡ 1ᴱ
  unfolding one
  read_one = ext K d p go
    where
      go : (k : ℕ) → k < d → coef K d p (read one) k ≡ coef K d p 1ᴱ k
      go zero l = coef_read one 0 l ∙ (fromℤ K).on_one ∙ sym (N.coef-one-zero K d p)
      go (suc k) l = coef_read one (suc k) l ∙ ofℕ-zero K ∙ sym (N.coef-one-pos K d p (suc k) (omega arith) l)

  -- ---- rotations and products

  flips_on : (n : ℕ) (z : ℤ) → ofℤ K (flips n z) ≡ N.flips K n (ofℤ K z)
  unfolding flips N.flips
  flips_on zero z = refl
  flips_on (suc n) z = on_neg (fromℤ K) _ ∙ ap ⊖◌ (flips_on n z)

  coef_rotate : (e : ℕ) (a : Element) (k : ℕ) → ofℤ K (rotate d e a k) ≡ coef K d p (turn K d p e (read a)) k
  unfolding rotate around read
  coef_rotate e a k = flips_on _ _ ∙ sym (coef_poly_any K d p _ _) ∙ sym (N.coef-turn-back K d p e (read a) k)

  pub read-rotate : (e : ℕ) (a : Element) → read (rotate d e a) ≡ X^ K d p e ⊠ read a
  read-rotate e a = ext K d p (λ k l. coef_read _ k l ∙ coef_rotate e a k) ∙ sym (N.X^-mul K d p e (read a))

  pub read-power : (e : ℕ) → read (power d e) ≡ X^ K d p e
  unfolding power
  read-power e = read-rotate e one ∙ ap (λ t. X^ K d p e ⊠ t) read_one ∙ KX.mul-one _

  pub read-product : (a b : Element) → read (product d a b) ≡ read a ⊠ read b
  unfolding product
  read-product a b = ext K d p (λ k l.
      coef_read _ k l ∙ sum_on d _
      ∙ Σ.sum-ext K d (λ i m. (fromℤ K).on_mul _ _ ∙ ap₂ ◌⊗◌ (sym (coef_read a i m)) (coef_rotate i b k))
      ∙ sym (N.coef-mul K d p (read a) (read b) k))

  pub read-inner : (h : ℕ) (m G : ℕ → Element) → read (inner d h m G) ≡ I.inner KX h (λ i. read (m i)) (λ i. read (G i))
  unfolding inner I.inner
  read-inner h m G = read-sum h (λ i. product d (m i) (G i)) ∙ Σ.sum-ext KX h (λ i _. read-product (m i) (G i))

-- ---- over the integers

-- the integers have one map into a ring
ofℕ_only : {K : CommRing} (φ : Hom ℤ-ring K) (n : ℕ) → φ.on (pos n) ≡ ofℕ K n
ofℕ_only {K} φ zero = on_zero φ ∙ sym (ofℕ-zero K)
ofℕ_only {K} φ (suc n) = ap (λ m. φ.on (pos m)) (sym (add-one n)) ∙ φ.on_add (pos n) (pos 1) ∙ ap₂ K.add (ofℕ_only φ n) φ.on_one ∙ sym (ofℕ-suc K n)

ofℤ_only : {K : CommRing} (φ : Hom ℤ-ring K) (z : ℤ) → φ.on z ≡ ofℤ K z
ofℤ_only φ (pos n) = ofℕ_only φ n
ofℤ_only {K} φ (negsuc n) = on_neg φ (pos (suc n)) ∙ ap K.neg (ofℕ_only φ (suc n)) ∙ sym (on_neg (fromℤ K) (pos (suc n)))

module _ (d : ℕ) (p : 0 < d) where
  abbrev pub readℤ : Element → (negacyclic ℤ-ring d p).C
  readℤ = read ℤ-ring d p

  pub coef_readℤ : (a : Element) (k : ℕ) → k < d → coef ℤ-ring d p (readℤ a) k ≡ a k
  coef_readℤ a k l = coef_read ℤ-ring d p a k l ∙ sym (ofℤ_only (identity ℤ-ring) (a k))

  pub readℤ-inj : (a b : Element) → readℤ a ≡ readℤ b → (k : ℕ) → k < d → a k ≡ b k
  readℤ-inj a b e k l = sym (coef_readℤ a k l) ∙ ap (λ x. coef ℤ-ring d p x k) e ∙ coef_readℤ b k l

  -- reading over K is reading over the integers, and then the map of the rings
  pub read_on : (K : CommRing) (a : Element) → (negacyclic_on (fromℤ K) d p).on (readℤ a) ≡ read K d p a
  read_on K a = ext K d p (λ k l. coef_on (fromℤ K) d p (readℤ a) k ∙ ap (ofℤ K) (coef_readℤ a k l) ∙ sym (coef_read K d p a k l))

-- ---- over ℤ/q

module _ (q : ℕ) (pq : 0 < q) where
  ofℤ-modulo : (z : ℤ) → ofℤ (Zmod q pq) z ≡ res q pq (modulo q z)
  unfolding modulo
  ofℤ-modulo (pos n) = ofℤ-pos q pq n
  ofℤ-modulo (negsuc n) = ofℤ-negsuc q pq n

  rep-ofℤ : (z : ℤ) → rep q pq (ofℤ (Zmod q pq) z) ≡ modulo q z
  rep-ofℤ z = ap (rep q pq) (ofℤ-modulo z) ∙ rep-res q pq (modulo q z) ∙ Nat.mod-eq_of_lt (modulo-lt q pq z)

  module _ (d : ℕ) (p : 0 < d) where
    abbrev pub readq : Element → (negacyclic (Zmod q pq) d p).C
    readq = read (Zmod q pq) d p

    -- elements are equal in the ring exactly when their places below d are equal modulo q
    pub readq-inj : (a b : Element) → readq a ≡ readq b → (k : ℕ) → k < d → modulo q (a k) ≡ modulo q (b k)
    readq-inj a b e k l = sym (rep-ofℤ (a k)) ∙ ap (rep q pq) (sym (coef_read (Zmod q pq) d p a k l) ∙ ap (λ x. coef (Zmod q pq) d p x k) e ∙ coef_read (Zmod q pq) d p b k l) ∙ rep-ofℤ (b k)

    pub readq_ext : (a b : Element) → ((k : ℕ) → k < d → modulo q (a k) ≡ modulo q (b k)) → readq a ≡ readq b
    readq_ext a b e = ext (Zmod q pq) d p (λ k l. coef_read _ d p a k l ∙ ofℤ-modulo (a k) ∙ ap (res q pq) (e k l) ∙ sym (ofℤ-modulo (b k)) ∙ sym (coef_read _ d p b k l))

    -- what is reduced place by place is the same element
    pub readq-modulo : (a : Element) {b : Element} → ((k : ℕ) → k < d → b k ≡ pos (modulo q (a k))) → readq b ≡ readq a
    readq-modulo a {b} e = readq_ext b a (λ k l. ap (modulo q) (e k l) ∙ modulo_residue q pq (modulo q (a k)) (modulo-lt q pq (a k)))

    -- a list of residues is a, reduced, exactly when its first d entries are a's places modulo q
    pub readq-entries : (a : Element) (l : List ℕ) → ((k : ℕ) → k < d → get_or l k 0 ≡ modulo q (a k)) → readq (residue l) ≡ readq a
    unfolding residue
    readq-entries a l e = readq-modulo a (λ k h. ap pos (e k h))

    pub entries-readq : (a : Element) (l : List ℕ) → ((k : ℕ) → k < d → get_or l k 0 < q) → readq (residue l) ≡ readq a → (k : ℕ) → k < d → get_or l k 0 ≡ modulo q (a k)
    unfolding residue
    entries-readq a l r e k h = sym (modulo_residue q pq (get_or l k 0) (r k h)) ∙ readq-inj (residue l) a e k h

    pub readq-reduced : (a : Element) → readq (residue (reduced q d a)) ≡ readq a
    readq-reduced a = readq-entries a (reduced q d a) (reduced_at q d a)
