-- The vector of a node: how long it is, what its two halves are place by place, and what they are in the ring of degree d over a ring K.
use mathlib.Core.Path.{◌≡◌, sym, ap, ap₂, ◌∙◌, subst}
use mathlib.Core.List.{List, ◌++◌}
use Prim.Native.Nat.{ℕ, zero, suc, ◌+◌, ◌*◌, ◌-◌, ◌^◌, ◌<◌}
use native.Mathlib.Nat as Nat
use native.Mathlib.Decide.{dec_lt}
use native.Mathlib.Omega.{arith}
use lib.ListN.{length, get_or, length-append}
use lib.Seq.{get_or-append-add}
use lib.IntN.{ℤ, pos}
use Rattle.algebra.specs.Ring.{CommRing}
use Rattle.algebra.specs.Negacyclic.{negacyclic, X^}
use Rattle.protocol.specs.declared.Settings.{Settings}
use Rattle.protocol.specs.Element.{Element, rotate, plus, signed, signed_at, coefficients}
use Rattle.protocol.specs.Basic.{flat}
use Rattle.protocol.specs.Tree.{child, challenge, share, joined, combined, nodes, leaf, vector}
use Rattle.protocol.proofs.Reading.{tabulate_length, flat-length, flat_at, flat-front}
use Rattle.claims.proofs.Readings.{read, read_ext, read-plus, read-rotate, read-product}
use Rattle.claims.proofs.Weights.{weight}

-- what holds of the places below n and of those n further on holds below 2·n
pub halves : (P : ℕ → Type 0) (n : ℕ) → ((i : ℕ) → i < n → P i) → ((i : ℕ) → i < n → P (n + i)) → (i : ℕ) → i < n + n → P i
halves P n low high i l = elim (dec_lt i n) [ yes h ↦ low i h | no h ↦ subst P (omega arith) (high (i - n) (omega arith)) ]

-- element 0 of a list
pub signed_first : (d : ℕ) (l : List ℤ) (k : ℕ) → signed_at d l 0 k ≡ signed l k
unfolding signed_at signed
signed_first d l k = ap (λ j. get_or l j (pos 0)) (omega arith)

-- ---- one flat table behind another

module _ (d n : ℕ) (F G : ℕ → ℕ → ℤ) where
  halves-length : length (flat d n F ++ flat d n G) ≡ n * d + n * d
  halves-length = length-append (flat d n F) (flat d n G) ∙ ap₂ ◌+◌ (flat-length d n F) (flat-length d n G)

  halves-behind : (i k : ℕ) → i < n → k < d → get_or (flat d n F ++ flat d n G) ((n + i) * d + k) (pos 0) ≡ G i k
  halves-behind i k li lk = ap (λ j. get_or (flat d n F ++ flat d n G) j (pos 0)) there ∙ get_or-append-add (flat d n F) (flat d n G) (i * d + k) (pos 0) ∙ flat_at d n G (pos 0) i k li lk
    where
      there : (n + i) * d + k ≡ length (flat d n F) + (i * d + k)
      there = omega (arith, flat-length d n F, Nat.add-mul n i d)

-- ---- a node's vector

module _ (d n a b c : ℕ) (m₁ m₂ m₃ v₁ v₂ v₃ : List ℤ) where
  joined_length : length (joined d n a b c m₁ m₂ m₃ v₁ v₂ v₃) ≡ n * d + n * d
  unfolding joined
  joined_length = halves-length d n _ _

  -- PROTOCOL 5.5, the first half of a node's vector
  pub joined-low : (i k : ℕ) → i < n → k < d → signed_at d (joined d n a b c m₁ m₂ m₃ v₁ v₂ v₃) i k ≡ plus (plus (share d m₁ v₁ i) (share d m₂ v₂ i)) (share d m₃ v₃ i) k
  unfolding joined signed_at plus
  joined-low i k li lk = flat-front d n _ _ (pos 0) i k li lk

  -- PROTOCOL 5.5, the second half
  pub joined-high : (i k : ℕ) → i < n → k < d
      → signed_at d (joined d n a b c m₁ m₂ m₃ v₁ v₂ v₃) (n + i) k ≡ plus (plus (rotate d a (share d m₁ v₁ i)) (rotate d b (share d m₂ v₂ i))) (rotate d c (share d m₃ v₃ i)) k
  unfolding joined signed_at plus
  joined-high i k li lk = halves-behind d n _ _ i k li lk

  -- the same in the ring
  module _ (K : CommRing) (p : 0 < d) where
    open negacyclic K d p use {C, add as ◌⊕◌, mul as ◌⊗◌}

    infixl 60 ◌⊕◌
    infixl 70 ◌⊗◌
    abbrev rd : Element → C
    rd = read K d p

    read-share : (m v : List ℤ) (i : ℕ) → rd (share d m v i) ≡ rd (signed m) ⊗ rd (signed_at d v i)
    unfolding share
    read-share m v i = read-product K d p _ _

    read-turned : (e : ℕ) (m v : List ℤ) (i : ℕ) → rd (rotate d e (share d m v i)) ≡ X^ K d p e ⊗ (rd (signed m) ⊗ rd (signed_at d v i))
    read-turned e m v i = read-rotate K d p e _ ∙ ap (λ x. X^ K d p e ⊗ x) (read-share m v i)

    read-three : (x y z : Element) → rd (plus (plus x y) z) ≡ rd x ⊕ rd y ⊕ rd z
    read-three x y z = read-plus K d p _ _ ∙ ap (λ t. t ⊕ rd z) (read-plus K d p x y)

    pub read_low : (i : ℕ) → i < n → rd (signed_at d (joined d n a b c m₁ m₂ m₃ v₁ v₂ v₃) i)
        ≡ rd (signed m₁) ⊗ rd (signed_at d v₁ i) ⊕ rd (signed m₂) ⊗ rd (signed_at d v₂ i) ⊕ rd (signed m₃) ⊗ rd (signed_at d v₃ i)
    read_low i l = read_ext K d p (λ k. joined-low i k l) ∙ read-three _ _ _ ∙ λ z. read-share m₁ v₁ i z ⊕ read-share m₂ v₂ i z ⊕ read-share m₃ v₃ i z

    pub read-high : (i : ℕ) → i < n → rd (signed_at d (joined d n a b c m₁ m₂ m₃ v₁ v₂ v₃) (n + i))
        ≡ X^ K d p a ⊗ (rd (signed m₁) ⊗ rd (signed_at d v₁ i)) ⊕ X^ K d p b ⊗ (rd (signed m₂) ⊗ rd (signed_at d v₂ i)) ⊕ X^ K d p c ⊗ (rd (signed m₃) ⊗ rd (signed_at d v₃ i))
    read-high i l = read_ext K d p (λ k. joined-high i k l) ∙ read-three _ _ _ ∙ λ z. read-turned a m₁ v₁ i z ⊕ read-turned b m₂ v₂ i z ⊕ read-turned c m₃ v₃ i z

-- ---- the vectors of a tree

module _ (S : Settings) (E : List ℕ) (finals : List ℤ) where
  pub vector-length : (h k : ℕ) → length (vector S E finals h k) ≡ 2 ^ h * S.degree
  unfolding vector combined leaf coefficients
  vector-length zero k = tabulate_length S.degree _ ∙ sym (Nat.one-mul S.degree)
  vector-length (suc h) k = joined_length S.degree (2 ^ h) _ _ _ _ _ _ _ _ _ ∙ omega (arith, ap (λ n. n * S.degree) (Nat.two-pow-succ h))

  module _ (K : CommRing) (p : 0 < S.degree) where
    open negacyclic K S.degree p use {C, add as ◌⊕◌, mul as ◌⊗◌}

    infixl 60 ◌⊕◌
    infixl 70 ◌⊗◌
    -- element i of the vector of node k
    abbrev pub vec : ℕ → ℕ → ℕ → (negacyclic K S.degree p).C
    vec h k i = read K S.degree p (signed_at S.degree (vector S E finals h k) i)

    pub vec-leaf : (k : ℕ) → vec 0 k 0 ≡ read K S.degree p (signed (leaf S finals (k - nodes S)))
    unfolding vector
    vec-leaf k = read_ext K S.degree p (λ i _. signed_first S.degree (leaf S finals (k - nodes S)) i)

    -- challenge j of node k, and the three weights
    abbrev pub e^ : ℕ → ℕ → (negacyclic K S.degree p).C
    e^ k j = X^ K S.degree p (challenge E k j)

    abbrev pub μ₁ : ℕ → (negacyclic K S.degree p).C
    μ₁ k = weight K S.degree p (challenge E k 0) (challenge E k 1) (challenge E k 2)

    abbrev pub μ₂ : ℕ → (negacyclic K S.degree p).C
    μ₂ k = weight K S.degree p (challenge E k 1) (challenge E k 0) (challenge E k 2)

    abbrev pub μ₃ : ℕ → (negacyclic K S.degree p).C
    μ₃ k = weight K S.degree p (challenge E k 2) (challenge E k 0) (challenge E k 1)

    pub vec-low : (h k i : ℕ) → i < 2 ^ h → vec (suc h) k i ≡ μ₁ k ⊗ vec h (child k 0) i ⊕ μ₂ k ⊗ vec h (child k 1) i ⊕ μ₃ k ⊗ vec h (child k 2) i
    unfolding vector combined
    vec-low h k i l = read_low S.degree (2 ^ h) _ _ _ _ _ _ _ _ _ K p i l

    pub vec-high : (h k i : ℕ) → i < 2 ^ h → vec (suc h) k (2 ^ h + i) ≡ e^ k 0 ⊗ (μ₁ k ⊗ vec h (child k 0) i) ⊕ e^ k 1 ⊗ (μ₂ k ⊗ vec h (child k 1) i) ⊕ e^ k 2 ⊗ (μ₃ k ⊗ vec h (child k 2) i)
    unfolding vector combined
    vec-high h k i l = read-high S.degree (2 ^ h) _ _ _ _ _ _ _ _ _ K p i l
