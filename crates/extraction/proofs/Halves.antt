-- Lists of 2n elements, and a node's vector with a share added, by their places.
use mathlib.Core.Path.{◌≡◌, sym, ap, ◌∙◌, subst}
use mathlib.Core.List.{List, ◌++◌}
use Prim.Native.Nat.{ℕ, ◌+◌, ◌*◌, ◌-◌, ◌<◌}
use native.Mathlib.Decide.{dec_lt}
use native.Mathlib.Omega.{arith}
use lib.ListN.{length, get_or, length-append}
use lib.Seq.{get_or-append-add, ext_get_or}
use lib.IntN.{ℤ, pos, ◌+ℤ◌}
use Rattle.protocol.specs.Basic.{flat}
use Rattle.protocol.specs.Element.{rotate, signed_at}
use Rattle.protocol.specs.Tree.{share}
use Rattle.protocol.proofs.Reading.{by_cells, flat-length, flat_at, flat-front}
use Rattle.extraction.specs.Vectors.{with_share}

module _ (d n : ℕ) (F G : ℕ → ℕ → ℤ) where
  pub two_length : length (flat d n F ++ flat d n G) ≡ 2 * (n * d)
  two_length = length-append (flat d n F) (flat d n G) ∙ omega (arith, flat-length d n F, flat-length d n G)

  pub two_first : (i k : ℕ) → i < n → k < d → get_or (flat d n F ++ flat d n G) (i * d + k) (pos 0) ≡ F i k
  two_first i k li lk = flat-front d n F (flat d n G) (pos 0) i k li lk

  pub two_second : (i k : ℕ) → i < n → k < d → get_or (flat d n F ++ flat d n G) (n * d + (i * d + k)) (pos 0) ≡ G i k
  two_second i k li lk =
      ap (λ x. get_or (flat d n F ++ flat d n G) (x + (i * d + k)) (pos 0)) (sym (flat-length d n F))
      ∙ get_or-append-add (flat d n F) (flat d n G) (i * d + k) (pos 0)
      ∙ flat_at d n G (pos 0) i k li lk

  -- they are known by their places
  pub two_ext : 0 < d → (x : List ℤ) → length x ≡ 2 * (n * d) → ((i k : ℕ) → i < n → k < d → get_or x (i * d + k) (pos 0) ≡ F i k)
      → ((i k : ℕ) → i < n → k < d → get_or x (n * d + (i * d + k)) (pos 0) ≡ G i k) → x ≡ flat d n F ++ flat d n G
  two_ext p x long f g = ext_get_or (pos 0) x _ (long ∙ sym two_length) (λ j l. same j (omega (arith, long)))
    where
      Same : ℕ → Type 0
      Same j = get_or x j (pos 0) ≡ get_or (flat d n F ++ flat d n G) j (pos 0)

      same : (j : ℕ) → j < 2 * (n * d) → get_or x j (pos 0) ≡ get_or (flat d n F ++ flat d n G) j (pos 0)
      same j l = elim (dec_lt j (n * d)) [
        | yes h ↦ by_cells d n p Same (λ i k li lk. f i k li lk ∙ sym (two_first i k li lk)) j h
        | no h ↦ subst Same (omega arith) (by_cells d n p (λ y. Same (n * d + y)) (λ i k li lk. g i k li lk ∙ sym (two_second i k li lk)) (j - n * d) (omega arith))
      ]

-- a node's vector, at its places
module _ (d n e : ℕ) (m v R : List ℤ) where
  pub with_share-length : length (with_share d n e m v R) ≡ 2 * (n * d)
  unfolding with_share
  with_share-length = two_length d n _ _

  pub with_share_first : (i k : ℕ) → i < n → k < d → get_or (with_share d n e m v R) (i * d + k) (pos 0) ≡ signed_at d R i k +ℤ share d m v i k
  unfolding with_share
  with_share_first = two_first d n _ _

  pub with_share_second : (i k : ℕ) → i < n → k < d → get_or (with_share d n e m v R) (n * d + (i * d + k)) (pos 0) ≡ signed_at d R (n + i) k +ℤ rotate d e (share d m v i) k
  unfolding with_share
  with_share_second = two_second d n _ _
