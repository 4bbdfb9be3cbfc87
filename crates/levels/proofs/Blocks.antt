-- A block splits in two: at which e they stand, how long they are, and what is left of an element in each.
use Rattle.std.proofs.Common.{◌≡◌, ℕ, suc, ◌+◌, ◌*◌, ◌/◌, ◌^◌, ◌<◌, ◌≤◌, List, length, take, drop, ap, ◌∙◌, arith, length-drop, length-take-le}
use native.Mathlib.Nat as NatL
use Rattle.algebra.specs.Ring.{pow}
use Rattle.algebra.specs.Transform.{value, value-split}
use Rattle.powers.specs.Powers.{K, psi, root}
use Rattle.powers.proofs.Roots.{parts, root-power}
use Rattle.levels.specs.Levels.{Block}

-- the block of a whole element
pub whole-block : (D : ℕ) → D ≤ 7 → Block D 128
whole-block D few = record { most = few; inside = omega arith; by = 128 / 2 ^ D; is = parts D few }

halved : (D e by : ℕ) → e ≡ by * 2 ^ suc D → e / 2 ≡ by * 2 ^ D
halved D e by is = omega (arith, is, ap (λ n. by * n) (NatL.pow-suc 2 D), NatL.mul_assoc by (2 ^ D) 2)

pub first_block : (D e : ℕ) → Block (suc D) e → Block D (e / 2)
first_block D e b = record { most = omega (arith, b.most); inside = omega (arith, b.inside); by = b.by; is = halved D e b.by b.is }

pub second_block : (D e : ℕ) → Block (suc D) e → Block D (e / 2 + 128)
second_block D e b = record {
  most = omega (arith, b.most);
  inside = omega (arith, b.inside);
  by = b.by + 128 / 2 ^ D;
  is = omega (arith, halved D e b.by b.is, parts D (omega (arith, b.most)), NatL.add-mul b.by (128 / 2 ^ D) (2 ^ D));
}

-- a value of a block is one of its half, at the half's root
pub half-value : (D e : ℕ) → Block D e → (f : ℕ → K.C) (j : ℕ) → j < 2 ^ D
    → value K (2 ^ suc D) f (root D e j) ≡ value K (2 ^ D) (λ i. K.add (f i) (K.mul (pow K psi e) (f (2 ^ D + i)))) (root D e j)
half-value D e b f j s = ap (λ n. value K n f (root D e j)) (NatL.two-pow-succ D) ∙ value-split K (2 ^ D) f (root D e j) (pow K psi e) (root-power D e j b.most b.by b.is s)

-- ---- lengths

pub twice_by : (D w : ℕ) → 2 ^ suc D * w ≡ 2 ^ D * w + 2 ^ D * w
twice_by D w = ap (λ n. n * w) (NatL.two-pow-succ D) ∙ NatL.add-mul (2 ^ D) (2 ^ D) w

pub half_length : (D w n : ℕ) → n ≡ 2 ^ suc D * w → n / 2 ≡ 2 ^ D * w
half_length D w n e = omega (arith, e, twice_by D w)

module _ (D w : ℕ) (l : List ℕ) (long : length l ≡ 2 ^ suc D * w) where
  pub take_long : length (take (2 ^ D * w) l) ≡ 2 ^ D * w
  take_long = length-take-le (2 ^ D * w) l (omega (arith, long, twice_by D w))

  pub drop_long : length (drop (2 ^ D * w) l) ≡ 2 ^ D * w
  drop_long = length-drop (2 ^ D * w) l ∙ omega (arith, long, twice_by D w)
