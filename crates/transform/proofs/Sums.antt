-- Sums of products of transforms: what a batch adds to them, and the element that comes back.
use Rattle.std.proofs.Common.{◌≡◌, ℕ, zero, suc, ◌+◌, ◌-◌, ◌*◌, ◌/◌, ◌%◌, ◌^◌, ◌<◌, ◌≤◌, List, ◌++◌, length, get_or, take, replicate, sym, ap, ◌∙◌, ap₂, arith, length-take-le}
use native.Mathlib.Nat as Nat
use native.Mathlib.Decide.{dec_lt}
use lib.ListN.{get_or-append, get_or-eq_default}
use Rattle.algebra.specs.Ring.{two, pow, one-mul}
use Rattle.algebra.specs.Sum.{sum, sum-ext, sum-add}
use Rattle.algebra.specs.Integers.{ofℤ}
use Rattle.algebra.specs.Residues.{res-zero, res-add, res-mul, res-mod}
use Rattle.algebra.specs.Transform.{value_ext}
use Rattle.protocol.specs.Basic.{tabulate}
use Rattle.protocol.specs.Element.{Element, width, plus, modulo, reduced, padded}
use Rattle.protocol.specs.Opening.{inner}
use Rattle.protocol.proofs.Reading.{tabulate_ext}
use Rattle.powers.specs.Powers.{modulus, positive, K, res, root, Below, seen}
use Rattle.levels.specs.Levels.{Sent, Returned}
use Rattle.residues.proofs.Fill.{filled_at, filled-behind, filled-length}
use Rattle.transform.specs.Strands.{strands, value_at, Room, Filled, Values, Stands, Added}
use Rattle.transform.specs.Steps.{with_products, total, gathered, Multiple}
use Rattle.transform.proofs.Values.{value_at-plus, value_at-inner, recovered, by_degree}
open K use {add as ◌⊕◌, mul as ◌⊗◌}

infixl 60 ◌⊕◌
infixl 70 ◌⊗◌
-- ---- a batch

-- the elements of a filled room, transformed
pub values-sent : (D : ℕ) (F : ℕ → Element) (x x' : List ℕ) → Filled D strands F x → Sent D strands 128 x x' → Values D F x'
unfolding value_at
values-sent D F x x' f to = record {
  room = record { long = to.same ∙ f.room.long; below = to.below };
  each = λ j l b c. to.is j l b c ∙ value_ext K (2 ^ D) (root D 128 j) (λ k h. f.each l k c h);
}

module _ (D : ℕ) (F G : ℕ → Element) (H : Element) (count : ℕ) (x y s : List ℕ) (given : Added D F G H count x y s)
    (y' s' : List ℕ) (to-y : Values D G y') (to-s : s' ≡ with_products x y' s) where
  product_most : (k : ℕ) → get_or x k 0 % modulus * (get_or y' k 0 % modulus) ≤ 12288 * 12288
  product_most k = Nat.mul-le-mul {n₂ = 12288} {m₂ = 12288} (omega arith) (omega arith)

  -- no sum leaves its 32 bits
  sum_at : (k : ℕ) → k < length s → get_or s' k 0 ≡ get_or s k 0 + get_or x k 0 % modulus * (get_or y' k 0 % modulus)
  sum_at k h = ap (λ t. get_or t k 0) to-s ∙ filled_at _ (length s) s 0 k h ∙ Nat.mod-eq_of_lt (omega (arith, given.fits, given.stands.most k, product_most k))

  sum-behind : (k : ℕ) → length s ≤ k → get_or s' k 0 ≡ get_or s k 0
  sum-behind k h = ap (λ t. get_or t k 0) to-s ∙ filled-behind _ (length s) s 0 k h

  sum-seen : (k : ℕ) → k < length s → seen s' k ≡ seen s k ⊕ seen x k ⊗ seen y' k
  unfolding seen
  sum-seen k h =
      ap res (sum_at k h)
      ∙ res-add modulus positive _ _
      ∙ ap (λ t. res (get_or s k 0) ⊕ t) (res-mul modulus positive _ _ ∙ ap₂ ◌⊗◌ (res-mod modulus positive _) (res-mod modulus positive _))

  pub batch_added : Room D y' × Stands D (plus H (inner (2 ^ D) strands F G)) (count + 1) s'
  batch_added = (
    to-y.room,
    record {
      long = ap length to-s ∙ filled-length _ (length s) s (Nat.le_refl _) ∙ given.stands.long;
      most = λ k. elim (dec_lt k (length s)) [
        | yes h ↦ omega (arith, sum_at k h, given.stands.most k, product_most k)
        | no h ↦ omega (arith, sum-behind k (omega arith), given.stands.most k)
      ];
      is = λ j b.
          sum-ext K strands (λ l c. sum-seen (j * strands + l) (omega (arith, given.stands.long)))
          ∙ sum-add K strands _ _
          ∙ ap₂ ◌⊕◌ (given.stands.is j b)
          (sum-ext K strands (λ l c. ap₂ ◌⊗◌ (given.x_values.each j l b c) (to-y.each j l b c))
          ∙ sym (value_at-inner D strands given.most F G j b))
          ∙ sym (value_at-plus D H (inner (2 ^ D) strands F G) j);
    },
  )

-- ---- the way back

total-sum : (s : List ℕ) (at n : ℕ) → res (total s at n) ≡ sum K n (λ l. seen s (at + l))
unfolding total sum seen
total-sum s at zero = res-zero modulus positive
total-sum s at (suc n) = res-add modulus positive _ _ ∙ ap (λ t. t ⊕ res (get_or s (at + n) 0)) (total-sum s at n)

-- what the sums of each place add up to
module _ (s z u : List ℕ) (to-u : u ≡ gathered s z) where
  pub gathered_long : length u ≡ length z
  gathered_long = ap length to-u ∙ filled-length _ (length z) z (Nat.le_refl _)

  gathered_at : (k : ℕ) → k < length z → get_or u k 0 ≡ total s (k * strands) strands % modulus
  gathered_at k h = ap (λ t. get_or t k 0) to-u ∙ filled_at _ (length z) z 0 k h

  pub gathered-below : Below (2 * modulus) u
  gathered-below k = elim (dec_lt k (length z)) [
    | yes h ↦ omega (arith, gathered_at k h)
    | no h ↦ omega (arith, get_or-eq_default u 0 {n = k} (omega (arith, gathered_long)))
  ]

-- the element, 2^D times
module _ (D : ℕ) (F : Element) (count : ℕ) (s z u v : List ℕ) (stands : Stands D F count s) (long : length z ≡ 2 ^ D)
    (to-u : u ≡ gathered s z) (to-v : Returned D 128 u v) where
  valued : (j : ℕ) → j < 2 ^ D → seen u j ≡ value_at D F j
  unfolding seen
  valued j b = ap res (gathered_at s z u to-u j (omega arith)) ∙ res-mod modulus positive _ ∙ total-sum s (j * strands) strands ∙ stands.is j b

  pub came_back : Multiple D F v
  unfolding value_at
  came_back = record { long = to-v.same ∙ gathered_long s z u to-u ∙ long; is = to-v.is (λ k. ofℤ K (F k)) valued }

-- divided by 2^D
once : (D d : ℕ) → D ≤ 7 → d ≡ 2 ^ D → (F : Element) (v : List ℕ) (k : ℕ) → seen v k ≡ pow K (two K) D ⊗ ofℤ K (F k)
    → get_or v k 0 * (12289 - 12288 / d) % modulus ≡ modulo modulus (F k)
unfolding seen
once D d h degree F v k e =
    recovered _ (F k) (Nat.mod-lt _ positive)
    (res-mod modulus positive _
    ∙ ap (λ n. res (get_or v k 0 * (12289 - 12288 / n))) degree
    ∙ res-mul modulus positive _ _
    ∙ K.mul_comm _ _
    ∙ ap (λ t. res (12289 - 12288 / 2 ^ D) ⊗ t) e
    ∙ sym (K.mul_assoc _ _ _)
    ∙ ap (λ t. t ⊗ ofℤ K (F k)) (by_degree D h)
    ∙ one-mul K _)

-- the front of zeros that is lent for it
pub front_long : (d : ℕ) → d ≤ width → length {A = ℕ} (take d (replicate width 0)) ≡ d
front_long d h = length-take-le d (replicate width 0) h

-- the element, out of a list that begins with it
pub element_back : (D d : ℕ) → D ≤ 7 → d ≡ 2 ^ D → (F : Element) (v rest : List ℕ) → Multiple D F v
    → padded d (tabulate d (λ k. get_or (v ++ rest) k 0 * (12289 - 12288 / d) % modulus)) ≡ padded d (reduced modulus d F)
unfolding reduced
element_back D d h degree F v rest m =
    ap (padded d) (tabulate_ext d (λ k b. ap (λ n. n * (12289 - 12288 / d) % modulus) (get_or-append v rest 0 k (omega (arith, m.long))) ∙ once D d h degree F v k (m.is k (omega arith))))
