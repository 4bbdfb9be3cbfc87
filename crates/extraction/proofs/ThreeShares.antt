-- Three shares added to zeros are a node's vector, and how large the numbers are meanwhile.
use mathlib.Core.Path.{◌≡◌, refl, sym, ap, ◌∙◌, subst}
use mathlib.Core.List.{List, ◌++◌}
use Prim.Native.Nat.{ℕ, ◌+◌, ◌*◌, ◌-◌, ◌<◌, ◌≤◌}
use native.Mathlib.Nat as Nat
use native.Mathlib.Decide.{dec_lt}
use native.Mathlib.Omega.{arith}
use lib.ListN.{get_or, get_or-eq_default}
use lib.IntN.{ℤ, pos, nat_abs, ◌+ℤ◌, +ℤ_idl}
use Rattle.algebra.specs.Magnitude.{nat_abs-add, weight}
use Rattle.protocol.specs.Basic.{flat}
use Rattle.protocol.specs.Element.{rotate, signed, signed_at, signed_zeros}
use Rattle.protocol.specs.Tree.{share, joined}
use Rattle.protocol.proofs.Reading.{by_cells, flat_ext}
use Rattle.claims.proofs.Bounds.{Bounded}
use Rattle.claims.proofs.Growth.{share-bounded, share-turned}
use Rattle.extraction.specs.Vectors.{with_share}
use Rattle.residues.proofs.SignedFill.{signed-zeros_at}
use Rattle.extraction.proofs.Halves.{with_share-length, with_share_first, with_share_second}

module _ (d n : ℕ) (p : 0 < d) where
  -- the two halves of a node's vector, at their places
  abbrev low : List ℤ → ℕ → ℕ → ℤ
  low R i k = signed_at d R i k

  abbrev high : List ℤ → ℕ → ℕ → ℤ
  high R i k = signed_at d R (n + i) k

  low-shared : (e : ℕ) (m v R : List ℤ) (i k : ℕ) → i < n → k < d → low (with_share d n e m v R) i k ≡ low R i k +ℤ share d m v i k
  unfolding signed_at
  low-shared e m v R i k li lk = with_share_first d n e m v R i k li lk

  high-shared : (e : ℕ) (m v R : List ℤ) (i k : ℕ) → i < n → k < d → high (with_share d n e m v R) i k ≡ high R i k +ℤ rotate d e (share d m v i) k
  unfolding signed_at
  high-shared e m v R i k li lk = ap (λ j. get_or (with_share d n e m v R) j (pos 0)) (omega (arith, Nat.add-mul n i d)) ∙ with_share_second d n e m v R i k li lk

  low_zeros : (N i k : ℕ) → signed_at d (signed_zeros N) i k ≡ pos 0
  unfolding signed_at
  low_zeros N i k = signed-zeros_at N (i * d + k)

  last_shared : (e : ℕ) (m v R : List ℤ) → with_share d n e m v R ≡ flat d n (λ i k. low R i k +ℤ share d m v i k) ++ flat d n (λ i k. high R i k +ℤ rotate d e (share d m v i) k)
  unfolding with_share
  last_shared e m v R = refl

  -- three numbers added to zero one after the other
  sum_of_three : (x y z : ℤ) {r₀ r₁ r₂ : ℤ} → r₀ ≡ pos 0 → r₁ ≡ r₀ +ℤ x → r₂ ≡ r₁ +ℤ y → r₂ +ℤ z ≡ x +ℤ y +ℤ z
  sum_of_three x y z e₀ e₁ e₂ = ap (λ r. r +ℤ z) (e₂ ∙ ap (λ r. r +ℤ y) (e₁ ∙ ap (λ r. r +ℤ x) e₀ ∙ +ℤ_idl x))

  pub three-shares : (a b c : ℕ) (m₁ m₂ m₃ v₁ v₂ v₃ : List ℤ) (N : ℕ)
      → with_share d n c m₃ v₃ (with_share d n b m₂ v₂ (with_share d n a m₁ v₁ (signed_zeros N))) ≡ joined d n a b c m₁ m₂ m₃ v₁ v₂ v₃
  unfolding joined
  three-shares a b c m₁ m₂ m₃ v₁ v₂ v₃ N = last_shared c m₃ v₃ R₂ ∙ λ j. flat_ext d n p lows j ++ flat_ext d n p highs j
    where
      R₁ : List ℤ
      R₁ = with_share d n a m₁ v₁ (signed_zeros N)

      R₂ : List ℤ
      R₂ = with_share d n b m₂ v₂ R₁

      lows : (i k : ℕ) → i < n → k < d → low R₂ i k +ℤ share d m₃ v₃ i k ≡ share d m₁ v₁ i k +ℤ share d m₂ v₂ i k +ℤ share d m₃ v₃ i k
      lows i k li lk =
          sum_of_three (share d m₁ v₁ i k) (share d m₂ v₂ i k) (share d m₃ v₃ i k)
          (low_zeros N i k) (low-shared a m₁ v₁ (signed_zeros N) i k li lk) (low-shared b m₂ v₂ R₁ i k li lk)

      highs : (i k : ℕ) → i < n → k < d
          → high R₂ i k +ℤ rotate d c (share d m₃ v₃ i) k ≡ rotate d a (share d m₁ v₁ i) k +ℤ rotate d b (share d m₂ v₂ i) k +ℤ rotate d c (share d m₃ v₃ i) k
      highs i k li lk =
          sum_of_three (rotate d a (share d m₁ v₁ i) k) (rotate d b (share d m₂ v₂ i) k) (rotate d c (share d m₃ v₃ i) k)
          (low_zeros N (n + i) k) (high-shared a m₁ v₁ (signed_zeros N) i k li lk) (high-shared b m₂ v₂ R₁ i k li lk)

  -- ---- how large they are

  module _ (a : ℕ) (m v R : List ℤ) (A B : ℕ) (wv : (j : ℕ) → nat_abs (get_or v j (pos 0)) ≤ B) (wR : (j : ℕ) → nat_abs (get_or R j (pos 0)) ≤ A) where
    abbrev next : List ℤ
    next = with_share d n a m v R

    -- by μ's weight
    abbrev most : ℕ
    most = A + weight d (signed m) * B

    v-within : (i : ℕ) → Bounded d B (signed_at d v i)
    unfolding signed_at
    v-within i k lk = wv (i * d + k)

    -- a sum of two of the numbers
    within-sum : (x y z : ℤ) → x ≡ y +ℤ z → nat_abs y ≤ A → nat_abs z ≤ weight d (signed m) * B → nat_abs x ≤ most
    within-sum x y z e hy hz = subst (λ w. nat_abs w ≤ most) (sym e) (omega (arith, nat_abs-add y z))

    abbrev Within : ℕ → Type 0
    Within j = nat_abs (get_or next j (pos 0)) ≤ most

    within_first : (i k : ℕ) → i < n → k < d → Within (i * d + k)
    unfolding signed_at
    within_first i k li lk = within-sum _ (signed_at d R i k) (share d m v i k) (with_share_first d n a m v R i k li lk) (wR (i * d + k)) (share-bounded d p B m v i (v-within i) k lk)

    within_second : (i k : ℕ) → i < n → k < d → Within (n * d + (i * d + k))
    unfolding signed_at
    within_second i k li lk = within-sum _ (signed_at d R (n + i) k) (rotate d a (share d m v i) k) (with_share_second d n a m v R i k li lk) (wR ((n + i) * d + k))
        (share-turned d p B m v i (v-within i) a k lk)

    pub shared-within : (j : ℕ) → nat_abs (get_or next j (pos 0)) ≤ most
    shared-within j = elim (dec_lt j (n * d)) [
      | yes l ↦ by_cells d n p Within within_first j l
      | no g ↦ elim (dec_lt j (2 * (n * d))) [
        | yes l ↦ subst Within (omega arith) (by_cells d n p (λ i. Within (n * d + i)) within_second (j - n * d) (omega arith))
        | no h ↦ subst (λ z. nat_abs z ≤ most) (sym (get_or-eq_default next (pos 0) {n = j} (omega (arith, with_share-length d n a m v R)))) (omega arith)
      ]
    ]
