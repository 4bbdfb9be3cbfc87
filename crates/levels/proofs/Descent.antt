-- The way down, by levels.
use Rattle.std.proofs.Common.{◌≡◌, ℕ, zero, suc, ◌+◌, ◌*◌, ◌/◌, ◌^◌, ◌<◌, List, ◌++◌, length, get_or, take, drop, sym, refl, ap, ◌∙◌, subst, arith, length-append, length-drop, length-take-le, get_or-drop, get_or-take}
use native.Mathlib.Nat as NatL
use Rattle.algebra.specs.Ring as R
use Rattle.algebra.specs.Ring.{pow}
use Rattle.algebra.specs.Transform.{value, value_ext, value_one}
use Rattle.powers.specs.Powers.{modulus, powers, K, res, psi, root, Below, seen}
use Rattle.powers.proofs.Roots.{power_at, opposite, root_first, root_second}
use Rattle.levels.specs.Levels.{Block, Sent, Down}
use Rattle.levels.specs.Halves.{Split}
use Rattle.levels.proofs.Parts.{joint_first, joint_second, by_halves, below-take, below-drop, below-append}
use Rattle.levels.proofs.Halves.{pairs_below}
use Rattle.levels.proofs.Blocks.{first_block, second_block, half-value, twice_by, half_length, take_long, drop_long}
open K use {add as ◌⊕◌, mul as ◌⊗◌, neg as ⊖◌}

infixl 60 ◌⊕◌
infixl 70 ◌⊗◌
infix 80 ⊖◌
-- a place of a block
place : (D w k i : ℕ) → k < 2 ^ D → i < w → k * w + i < 2 ^ D * w
place D w k i a b = omega (arith, NatL.mul-le-mul {n₁ = suc k} {m₁ = w} {n₂ = 2 ^ D} {m₂ = w} a (NatL.le_refl w), NatL.add-mul k 1 w)

-- a block of one place
none : (w e : ℕ) (l : List ℕ) (j i : ℕ) → j < 1 → seen l (j * w + i) ≡ value K 1 (λ k. seen l (k * w + i)) (root 0 e j)
none w e l zero i s = sym (value_one K (λ k. seen l (k * w + i)) (root 0 e 0))
none w e l (suc j) i s = absurd (omega arith)

pub down-none : (e : ℕ) (l : List ℕ) → Down 0 e l l
down-none e l = record { same = refl; sent = λ w _ _ below. record { same = refl; below = below; is = λ j i s _. none w e l j i s } }

-- n has what is left of the block l at one of the two roots, and t is n, sent
module _ (D w c : ℕ) (b : Block D c) (l n t : List ℕ) (left : (k : ℕ) → k < 2 ^ D * w → seen n k ≡ seen l k ⊕ pow K psi c ⊗ seen l (2 ^ D * w + k)) (sent : Sent D w c n t) where
  half-sent : (j i : ℕ) → j < 2 ^ D → i < w → seen t (j * w + i) ≡ value K (2 ^ suc D) (λ k. seen l (k * w + i)) (root D c j)
  half-sent j i s u =
      sent.is j i s u
      ∙ value_ext K (2 ^ D) (root D c j) (λ k v. left (k * w + i) (place D w k i v u)
      ∙ ap (λ n. seen l (k * w + i) ⊕ pow K psi c ⊗ seen l n) {y = (2 ^ D + k) * w + i} (omega (arith, NatL.add-mul (2 ^ D) k w)))
      ∙ sym (half-value D c b (λ k. seen l (k * w + i)) j s)

module _ (D w e z : ℕ) (b : Block (suc D) e) (is-z : z ≡ get_or powers (e / 2) 0) (l m p q : List ℕ) (long : length l ≡ 2 ^ suc D * w) (small : Below (4 * modulus) l)
    (split : Split z (2 ^ D * w) l m) where
  z_root : res z ≡ pow K psi (e / 2)
  z_root = ap res is-z ∙ power_at (e / 2) (omega (arith, b.inside))

  low : (k : ℕ) → k < 2 ^ D * w → seen (take (2 ^ D * w) m) k ≡ seen l k ⊕ pow K psi (e / 2) ⊗ seen l (2 ^ D * w + k)
  unfolding seen
  low k s = ap res (get_or-take (2 ^ D * w) m k 0 s) ∙ (split.pair k s).low (small k) ∙ ap (λ t. res (get_or l k 0) ⊕ t ⊗ res (get_or l (2 ^ D * w + k) 0)) z_root

  high : (k : ℕ) → k < 2 ^ D * w → seen (drop (2 ^ D * w) m) k ≡ seen l k ⊕ pow K psi (e / 2 + 128) ⊗ seen l (2 ^ D * w + k)
  unfolding seen
  high k s = ap res (get_or-drop (2 ^ D * w) m k 0) ∙ (split.pair k s).high (small k)
      ∙ ap (λ t. res (get_or l k 0) ⊕ t) (sym (R.neg-mul K _ _) ∙ ap (λ t. t ⊗ res (get_or l (2 ^ D * w + k) 0)) (ap ⊖◌ z_root ∙ sym (opposite (e / 2))))

  module _ (first : Sent D w (e / 2) (take (2 ^ D * w) m) p) (second : Sent D w (e / 2 + 128) (drop (2 ^ D * w) m) q) where
    m_long : length m ≡ 2 ^ suc D * w
    m_long = split.same ∙ long

    p_long : length p ≡ 2 ^ D * w
    p_long = first.same ∙ take_long D w m m_long

    abbrev At : ℕ → Type 0
    At j = (i : ℕ) → i < w → seen (p ++ q) (j * w + i) ≡ value K (2 ^ suc D) (λ k. seen l (k * w + i)) (root (suc D) e j)

    at_first : (j : ℕ) → j < 2 ^ D → At j
    unfolding seen
    at_first j s i u = ap res (joint_first (2 ^ D * w) p q p_long (j * w + i) (place D w j i s u))
        ∙ half-sent D w (e / 2) (first_block D e b) l _ p low first j i s u ∙ ap (value K (2 ^ suc D) (λ k. seen l (k * w + i))) (sym (root_first D e j s))

    at_second : (j : ℕ) → j < 2 ^ D → At (2 ^ D + j)
    unfolding seen
    at_second j s i u = ap (λ n. res (get_or (p ++ q) n 0)) {y = 2 ^ D * w + (j * w + i)} (omega (arith, NatL.add-mul (2 ^ D) j w))
        ∙ ap res (joint_second (2 ^ D * w) p q p_long (j * w + i))
        ∙ half-sent D w (e / 2 + 128) (second_block D e b) l _ q high second j i s u ∙ ap (value K (2 ^ suc D) (λ k. seen l (k * w + i))) (sym (root_second D e j))

    pub sent-level : Sent (suc D) w e l (p ++ q)
    sent-level = record {
      same = length-append p q ∙ omega (arith, p_long, second.same, drop_long D w m m_long, long, twice_by D w);
      below = below-append 49156 p q first.below second.below;
      is = λ j i s u. by_halves (λ j. j < 2 ^ suc D → At j) (2 ^ D) (λ j a _. at_first j a) (λ j a. at_second j (omega (arith, NatL.two-pow-succ D))) j s i u;
    }

-- what a level owes at its return
module _ (D e z : ℕ) (l m p q : List ℕ) (is-z : z ≡ get_or powers (e / 2) 0) where
  level-sent : (w : ℕ) → Block (suc D) e → length l ≡ 2 ^ suc D * w → Below (4 * modulus) l → Split z (2 ^ D * w) l m
      → Down D (e / 2) (take (2 ^ D * w) m) p → Down D (e / 2 + 128) (drop (2 ^ D * w) m) q → Sent (suc D) w e l (p ++ q)
  level-sent w b long small split first second = sent-level D w e z b is-z l m p q long small split
      (first.sent w (first_block D e b) (take_long D w m m_long) (below-take (2 ^ D * w) 49156 m (omega (arith, m_long, twice_by D w)) (omega arith) below))
      (second.sent w (second_block D e b) (drop_long D w m m_long) (below-drop (2 ^ D * w) 49156 m below))
    where
      m_long : length m ≡ 2 ^ suc D * w
      m_long = split.same ∙ long

      below : Below (4 * modulus) m
      below = pairs_below _ (4 * modulus) (2 ^ D * w) l m (λ x y u v a _ pair. (pair.low_below a, pair.high_below a)) split small

  level-down : Split z (length l / 2) l m → Down D (e / 2) (take (length l / 2) m) p → Down D (e / 2 + 128) (drop (length l / 2) m) q → Down (suc D) e l (p ++ q)
  level-down split first second = record {
    same = length-append p q
        ∙ omega (arith, first.same, second.same, length-take-le (length l / 2) m (omega (arith, split.same)), length-drop (length l / 2) m, split.same);
    sent = λ w b long small.
        subst (λ h. Split z h l m → Down D (e / 2) (take h m) p → Down D (e / 2 + 128) (drop h m) q → Sent (suc D) w e l (p ++ q)) (sym (half_length D w (length l) long))
        (level-sent w b long small) split first second;
  }

pub down_turn : (level D e z : ℕ) → level ≡ suc D → (l m p q : List ℕ) → (z ≡ get_or powers (e / 2) 0) → Split z (length l / 2) l m
    → Down D (e / 2) (take (length l / 2) m) p → Down D (e / 2 + 128) (drop (length l / 2) m) q → Down level e l (p ++ q)
down_turn level D e z up l m p q is-z split first second = subst (λ n. Down n e l (p ++ q)) (sym up) (level-down D e z l m p q is-z split first second)
