-- The way up, by levels.
use Rattle.std.proofs.Common.{◌≡◌, ℕ, zero, suc, ◌+◌, ◌-◌, ◌*◌, ◌/◌, ◌^◌, ◌<◌, List, ◌++◌, length, get_or, take, drop, sym, refl, ap, ◌∙◌, subst, ap₂, arith, length-append, length-drop, length-take-le, get_or-drop, get_or-take}
use native.Mathlib.Nat as NatL
use Rattle.algebra.specs.Ring as R
use Rattle.algebra.specs.Ring.{two, pow}
use Rattle.algebra.specs.Transform.{value, value_one, join_first, join_second}
use Rattle.powers.specs.Powers.{modulus, powers, K, res, psi, root, Below, seen}
use Rattle.powers.proofs.Roots.{power_at, opposite, inverse, root_first, root_second}
use Rattle.levels.specs.Levels.{Block, Returned, Up}
use Rattle.levels.specs.Halves.{Joined}
use Rattle.levels.proofs.Parts.{joint_first, joint_second, by_halves, below-take, below-drop, below-append}
use Rattle.levels.proofs.Halves.{pairs_below}
use Rattle.levels.proofs.Blocks.{first_block, second_block, half-value}
open K use {C, add as ◌⊕◌, mul as ◌⊗◌, neg as ⊖◌}

infixl 60 ◌⊕◌
infixl 70 ◌⊗◌
infix 80 ⊖◌
-- a block of one place
none : (e : ℕ) (l : List ℕ) (f : ℕ → C) → ((j : ℕ) → j < 1 → seen l j ≡ value K 1 f (root 0 e j)) → (k : ℕ) → k < 1 → seen l k ≡ pow K (two K) 0 ⊗ f k
unfolding pow
none e l f is zero s = is 0 s ∙ value_one K f (root 0 e 0) ∙ sym (R.one-mul K (f 0))
none e l f is (suc k) s = absurd (omega arith)

pub up_none : (e : ℕ) (l : List ℕ) → Up 0 e l l
up_none e l = record { same = refl; returned = λ _ _ below. record { same = refl; below = below; is = none e l } }

module _ (D e z : ℕ) (b : Block (suc D) e) (is-z : z ≡ get_or powers (128 - e / 2) 0) (l m p q : List ℕ) (long : length l ≡ 2 ^ suc D) (p_long : length p ≡ 2 ^ D)
    (first : Returned D (e / 2) (take (2 ^ D) l) p) (second : Returned D (e / 2 + 128) (drop (2 ^ D) l) q) (joined : Joined z (2 ^ D) (p ++ q) m) where
  both_below : Below (2 * modulus) (p ++ q)
  both_below = below-append 24578 p q first.below second.below

  module _ (f : ℕ → C) (is : (j : ℕ) → j < 2 ^ suc D → seen l j ≡ value K (2 ^ suc D) f (root (suc D) e j)) where
    -- what is left of f at each of the two roots
    first-is : (k : ℕ) → k < 2 ^ D → seen p k ≡ pow K (two K) D ⊗ (f k ⊕ pow K psi (e / 2) ⊗ f (2 ^ D + k))
    unfolding seen
    first-is = first.is (λ k. f k ⊕ pow K psi (e / 2) ⊗ f (2 ^ D + k)) (λ j s. ap res (get_or-take (2 ^ D) l j 0 s) ∙ is j (omega (arith, NatL.two-pow-succ D))
        ∙ ap (value K (2 ^ suc D) f) (root_first D e j s) ∙ half-value D (e / 2) (first_block D e b) f j s)

    second_is : (k : ℕ) → k < 2 ^ D → seen q k ≡ pow K (two K) D ⊗ (f k ⊕ pow K psi (e / 2 + 128) ⊗ f (2 ^ D + k))
    unfolding seen
    second_is = second.is (λ k. f k ⊕ pow K psi (e / 2 + 128) ⊗ f (2 ^ D + k)) (λ j s. ap res (get_or-drop (2 ^ D) l j 0) ∙ is (2 ^ D + j) (omega (arith, NatL.two-pow-succ D))
        ∙ ap (value K (2 ^ suc D) f) (root_second D e j) ∙ half-value D (e / 2 + 128) (second_block D e b) f j s)

    abbrev At : ℕ → Type 0
    At k = seen m k ≡ pow K (two K) (suc D) ⊗ f k

    at_first : (k : ℕ) → k < 2 ^ D → At k
    unfolding seen pow
    at_first k s = (joined.pair k s).low (both_below k) (both_below (2 ^ D + k))
        ∙ ap₂ (λ x y. res x ⊕ res y) (joint_first (2 ^ D) p q p_long k s) (joint_second (2 ^ D) p q p_long k)
        ∙ join_first K _ _ (pow K (two K) D) (f k) (f (2 ^ D + k)) _ _ (first-is k s) (second_is k s) (opposite (e / 2))

    at_second : (k : ℕ) → k < 2 ^ D → At (2 ^ D + k)
    unfolding seen pow
    at_second k s = (joined.pair k s).high (both_below k) (both_below (2 ^ D + k))
        ∙ ap₂ (λ x y. res z ⊗ (res y ⊕ ⊖ res x)) (joint_first (2 ^ D) p q p_long k s) (joint_second (2 ^ D) p q p_long k)
        ∙ join_second K _ _ (pow K (two K) D) (f k) (f (2 ^ D + k)) _ _ (first-is k s) (second_is k s) (opposite (e / 2)) (res z)
        (ap (λ t. t ⊗ pow K psi (e / 2)) (ap res is-z ∙ power_at (128 - e / 2) (omega arith)) ∙ inverse (e / 2) (omega (arith, b.inside)))

  pub returned-level : Returned (suc D) e l m
  returned-level = record {
    same = joined.same ∙ length-append p q ∙ omega (arith, p_long, second.same, length-drop (2 ^ D) l, long, NatL.two-pow-succ D);
    below = pairs_below _ (2 * modulus) (2 ^ D) (p ++ q) m (λ x y u v a c pair. (pair.low_below a c, pair.high_below a c)) joined both_below;
    is = λ f is. by_halves (λ k. k < 2 ^ suc D → At f is k) (2 ^ D) (λ k s _. at_first f is k s) (λ k s. at_second f is k (omega (arith, NatL.two-pow-succ D)));
  }

-- what a level owes at its return
module _ (D e z : ℕ) (l m p q : List ℕ) (is-z : z ≡ get_or powers (128 - e / 2) 0) where
  level-returned : Block (suc D) e → length l ≡ 2 ^ suc D → Below (2 * modulus) l
      → Up D (e / 2) (take (2 ^ D) l) p → Up D (e / 2 + 128) (drop (2 ^ D) l) q → Joined z (2 ^ D) (p ++ q) m → Returned (suc D) e l m
  level-returned b long small first second joined = returned-level D e z b is-z l m p q long (first.same ∙ front)
      (first.returned (first_block D e b) front (below-take (2 ^ D) 24578 l (omega (arith, long, NatL.two-pow-succ D)) (omega arith) small))
      (second.returned (second_block D e b) (length-drop (2 ^ D) l ∙ omega (arith, long, NatL.two-pow-succ D)) (below-drop (2 ^ D) 24578 l small)) joined
    where
      front : length (take (2 ^ D) l) ≡ 2 ^ D
      front = length-take-le (2 ^ D) l (omega (arith, long, NatL.two-pow-succ D))

  level-up : Up D (e / 2) (take (length l / 2) l) p → Up D (e / 2 + 128) (drop (length l / 2) l) q → Joined z (length l / 2) (p ++ q) m → Up (suc D) e l m
  level-up first second joined = record {
    same = joined.same ∙ length-append p q ∙ omega (arith, first.same, second.same, length-take-le (length l / 2) l (omega arith), length-drop (length l / 2) l);
    returned = λ b long small.
        subst (λ h. Up D (e / 2) (take h l) p → Up D (e / 2 + 128) (drop h l) q → Joined z h (p ++ q) m → Returned (suc D) e l m) {x = 2 ^ D} (omega (arith, long, NatL.two-pow-succ D))
        (level-returned b long small) first second joined;
  }

pub up_turn : (level D e z : ℕ) → level ≡ suc D → (l m p q : List ℕ) → (z ≡ get_or powers (128 - e / 2) 0) → Up D (e / 2) (take (length l / 2) l) p
    → Up D (e / 2 + 128) (drop (length l / 2) l) q → Joined z (length l / 2) (p ++ q) m → Up level e l m
up_turn level D e z up l m p q is-z first second joined = subst (λ n. Up n e l m) (sym up) (level-up D e z l m p q is-z first second joined)
