-- Multiplication by μ, up to a power of X, by two quotients and a sum: in the ring over the integers s(a,b) is X^(−a)·2/(1 − X^(b−a)).
use mathlib.Core.Path.{◌≡◌, sym, ap, ap₂, ◌∙◌}
use mathlib.Core.Logic.{◌≢◌}
use Prim.Native.Nat.{ℕ, zero, suc, ◌+◌, ◌*◌, ◌-◌, ◌%◌, ◌^◌, ◌<◌, ◌≤◌}
use native.Mathlib.Nat as Nat
use native.Mathlib.Omega.{arith}
use lib.IntN.{pos}
use Rattle.algebra.specs.Ring as R
use Rattle.algebra.specs.Ring.{CommRing, two}
use Rattle.algebra.specs.Integers.{ℤ-ring, ints}
use Rattle.algebra.specs.Solver.{con, neg, ◌⊕◌ as ◌:+◌, ◌⊗◌ as ◌:*◌, ◌≐◌, ring}
use Rattle.algebra.specs.Certificate.{◌·⟨◌⟩◌, ◌⇐◌, done, combine}
use Rattle.algebra.specs.Cancel.{cancels_ℤ, cancels_negacyclic}
use Rattle.algebra.specs.Negacyclic.{negacyclic, X^, X^_add, X^_d, X^_whole, X^_mod}
use Rattle.algebra.specs.Steps as A
use Rattle.protocol.specs.Element.{Element, rotate, product, signed}
use Rattle.protocol.specs.Tree.{gap, s, mu}
use Rattle.claims.proofs.Readings.{readℤ, readℤ-inj, read_ext, read-plus, read_one, read-power, read-rotate, read-product}
use Rattle.claims.proofs.Divisors.{read-divides, divisor}
use Rattle.claims.proofs.Weights.{signed-coefficients}
use Rattle.extraction.specs.Steps.{summed, doublings, divided, weighted}
use Rattle.extraction.proofs.Quotients.{doublings-meet}

module _ (d : ℕ) (p : 0 < d) where
  open negacyclic ℤ-ring d p use {C, 1#, add as ◌⊕◌, mul as ◌⊗◌, neg as ⊖◌}

  infixl 60 ◌⊕◌
  infixl 70 ◌⊗◌
  infix 80 ⊖◌
  abbrev RZ : CommRing
  RZ = negacyclic ℤ-ring d p

  abbrev x^ : ℕ → C
  x^ = X^ ℤ-ring d p

  abbrev r : Element → C
  r = readℤ d p

  summed-read : (k j : ℕ) (a : Element) → (1# ⊕ ⊖ x^ k) ⊗ r (summed d k j a) ≡ (1# ⊕ ⊖ x^ (k * 2 ^ j)) ⊗ r a
  unfolding summed
  summed-read k zero a = ap (λ n. (1# ⊕ ⊖ x^ n) ⊗ r a) (sym (ap (λ n. k * n) (Nat.pow-zero 2) ∙ Nat.mul-one k))
  summed-read k (suc j) a =
      ap (λ t. (1# ⊕ ⊖ x^ k) ⊗ t)
      (read-plus ℤ-ring d p (summed d k j a) (rotate d (k * 2 ^ j) (summed d k j a)) ∙ ap (λ t. r (summed d k j a) ⊕ t) (read-rotate ℤ-ring d p (k * 2 ^ j) (summed d k j a)))
      ∙ combine RZ (ints RZ) 5 (λ x K S a Z. (con (pos 1) :+ neg x) :* (S :+ K :* S) ≐ (con (pos 1) :+ neg Z) :* a
      ⇐ (con (pos 1) :+ K) ·⟨ (con (pos 1) :+ neg x) :* S ≐ (con (pos 1) :+ neg K) :* a ⟩ neg a ·⟨ K :* K ≐ Z ⟩ done) tt
      (x^ k) (x^ (k * 2 ^ j)) (r (summed d k j a)) (r a) (x^ (k * 2 ^ suc j)) (summed-read k j a) (X^_add ℤ-ring d p (k * 2 ^ j) (k * 2 ^ j) ∙ ap x^ twice)
    where
      twice : k * 2 ^ j + k * 2 ^ j ≡ k * 2 ^ suc j
      twice = sym (ap (λ n. k * n) (Nat.two-pow-succ j) ∙ Nat.mul-add k (2 ^ j) (2 ^ j))

  module _ (D : ℕ) (is : d ≡ 2 ^ D) (most : D ≤ 7) where
    divided-read : (k : ℕ) → 0 < k → k < 2 * d → (a : Element) → (1# ⊕ ⊖ x^ k) ⊗ r (divided d k a) ≡ two RZ ⊗ r a
    unfolding divided two
    divided-read k q l a = summed-read k (doublings d k) a ∙ ap (λ t. (1# ⊕ ⊖ t) ⊗ r a) half ∙ ap (λ t. (1# ⊕ t) ⊗ r a) (R.neg-neg RZ 1#)
      where
        half : x^ (k * 2 ^ doublings d k) ≡ ⊖ 1#
        half = sym (X^_mod ℤ-ring d p (k * 2 ^ doublings d k)) ∙ ap x^ (doublings-meet d k D is q l most) ∙ X^_d ℤ-ring d p

    module _ (a b : ℕ) (la : a < 2 * d) (lb : b < 2 * d) (ne : a ≢ b) where
      pub gap-some : 0 < gap d a b
      unfolding gap A.gap
      gap-some = A.gap-pos d a b la lb ne

      pub gap_below : gap d a b < 2 * d
      unfolding gap A.gap
      gap_below = A.gap-lt d a b p

      ahead : x^ a ⊗ x^ (gap d a b) ≡ x^ b
      unfolding gap
      ahead =
          ap (λ t. x^ a ⊗ t) (X^_mod ℤ-ring d p (b + (2 * d - a)))
          ∙ X^_add ℤ-ring d p a (b + (2 * d - a))
          ∙ ap x^ (let whole : a + (b + (2 * d - a)) ≡ b + 1 * (2 * d) = omega arith in whole)
          ∙ X^_whole ℤ-ring d p b 1

      divided-s : (v : Element) → r (divided d (gap d a b) v) ≡ x^ a ⊗ (r (s d a b) ⊗ r v)
      unfolding two
      divided-s v = cancels_negacyclic ℤ-ring d p cancels_ℤ _ _ (combine RZ (ints RZ) 6 (λ A B Y S v R. con (pos 2) :* R ≐ con (pos 2) :* (A :* (S :* v))
          ⇐ neg R ·⟨ S :* (A :+ neg B) ≐ con (pos 2) ⟩ (R :* S) ·⟨ A :* Y ≐ B ⟩ (S :* A) ·⟨ (con (pos 1) :+ neg Y) :* R ≐ con (pos 2) :* v ⟩ done) tt
          (x^ a) (x^ b) (x^ (gap d a b)) (r (s d a b)) (r v) (r (divided d (gap d a b) v))
          (read-divides ℤ-ring d p a b (s d a b) (divisor D d (sym is) a b la lb ne).divides) ahead
          (divided-read (gap d a b) gap-some gap_below v))

    module _ (a b c : ℕ) (la : a < 2 * d) (lb : b < 2 * d) (lc : c < 2 * d) (ab : a ≢ b) (ac : a ≢ c) where
      abbrev u : Element → Element
      u v = divided d (gap d a c) (divided d (gap d a b) v)

      u-read : (v : Element) → r (u v) ≡ x^ a ⊗ (r (s d a c) ⊗ (x^ a ⊗ (r (s d a b) ⊗ r v)))
      u-read v = divided-s a c la lc ac (divided d (gap d a b) v) ∙ ap (λ t. x^ a ⊗ (r (s d a c) ⊗ t)) (divided-s a b la lb ab v)

      weighted-read : (v : Element) → r (weighted d (gap d a b) (gap d a c) ((b + c) % (2 * d)) v) ≡ r (u v) ⊕ x^ (b + c) ⊗ r (u v)
      unfolding weighted
      weighted-read v =
          read-plus ℤ-ring d p (u v) (rotate d ((b + c) % (2 * d)) (u v)) ∙ ap (λ t. r (u v) ⊕ t) (read-rotate ℤ-ring d p ((b + c) % (2 * d)) (u v) ∙ ap (λ t. t ⊗ r (u v)) (X^_mod ℤ-ring d p (b + c)))

      mu-read : r (signed (mu d a b c)) ≡ r (s d a b) ⊗ r (s d a c) ⊗ (1# ⊕ x^ (b + c))
      unfolding mu
      mu-read =
          read_ext ℤ-ring d p (signed-coefficients d _)
          ∙ read-product ℤ-ring d p _ _
          ∙ ap₂ ◌⊗◌ (read-product ℤ-ring d p _ _) (read-plus ℤ-ring d p _ _ ∙ ap₂ ◌⊕◌ (read_one ℤ-ring d p) (read-power ℤ-ring d p (b + c)))

      turned-read : (v : Element) → r (rotate d (2 * a) (product d (signed (mu d a b c)) v)) ≡ x^ a ⊗ x^ a ⊗ (r (s d a b) ⊗ r (s d a c) ⊗ (1# ⊕ x^ (b + c)) ⊗ r v)
      turned-read v =
          read-rotate ℤ-ring d p (2 * a) (product d (signed (mu d a b c)) v)
          ∙ ap₂ ◌⊗◌ (ap x^ (Nat.two-mul a) ∙ sym (X^_add ℤ-ring d p a a)) (read-product ℤ-ring d p (signed (mu d a b c)) v ∙ ap (λ t. t ⊗ r v) mu-read)

      -- two quotients and a sum are multiplication by X^(2a)·μ
      pub weighted-mu : (v : Element) (k : ℕ) → k < d → weighted d (gap d a b) (gap d a c) ((b + c) % (2 * d)) v k ≡ rotate d (2 * a) (product d (signed (mu d a b c)) v) k
      weighted-mu v = readℤ-inj d p _ _ (
          weighted-read v
          ∙ (λ i. u-read v i ⊕ x^ (b + c) ⊗ u-read v i)
          ∙ ring RZ (ints RZ) 5
          (λ A S T v E. A :* (T :* (A :* (S :* v))) :+ E :* (A :* (T :* (A :* (S :* v)))) ≐ A :* A :* (S :* T :* (con (pos 1) :+ E) :* v)) tt (x^ a) (r (s d a b)) (r (s d a c)) (r v) (x^ (b + c))
          ∙ sym (turned-read v)
          )
