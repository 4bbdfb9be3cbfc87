-- What a turn makes of a pair, in the ring of the residues.
use Rattle.std.proofs.Common.{◌≡◌, ℕ, ◌+◌, ◌-◌, ◌*◌, ◌%◌, ◌<◌, ◌≤◌, sym, refl, ap, ◌∙◌, ap₂, arith}
use Rattle.algebra.specs.Ring as R
use Rattle.algebra.specs.Residues.{res-add, res-mul, res-mod, res-zero}
use Rattle.powers.specs.Powers.{modulus, positive, K, res}
use Rattle.levels.specs.Halves.{SplitPair, JoinedPair}
open K use {add as ◌⊕◌, mul as ◌⊗◌, neg as ⊖◌}

infixl 60 ◌⊕◌
infixl 70 ◌⊗◌
infix 80 ⊖◌
-- one residue
alike : (a b : ℕ) → a % 12289 ≡ b % 12289 → res a ≡ res b
alike a b e = sym (res-mod modulus positive a) ∙ ap res e ∙ res-mod modulus positive b

negated : (t : ℕ) → t ≤ 24578 → res (24578 - t) ≡ ⊖ res t
negated t h = R.neg_unique K (sym (res-add modulus positive t (24578 - t)) ∙ ap res {y = 24578} (omega arith) ∙ alike 24578 0 refl ∙ res-zero modulus positive)

multiplied : (z y t : ℕ) → t % 12289 ≡ y * z % 12289 → res t ≡ res z ⊗ res y
multiplied z y t e = alike t (y * z) e ∙ res-mul modulus positive y z ∙ K.mul_comm (res y) (res z)

-- p stands for x, t for z·y
pub split-pair : (z x y p t u v : ℕ) → (p % 12289 ≡ x % 12289) × (x < 49156 → p < 24578) → (t < 24578) × (t % 12289 ≡ y * z % 12289)
    → u ≡ (p + t) % 65536 → v ≡ (p + (24578 - t)) % 65536 → SplitPair z x y u v
split-pair z x y p t u v (same, small) (short, is) sum difference = record {
  low_below = λ b. omega (arith, small b);
  high_below = λ b. omega (arith, small b);
  low = λ b. ap res {y = p + t} (omega (arith, small b)) ∙ res-add modulus positive p t ∙ ap₂ ◌⊕◌ (alike p x same) (multiplied z y t is);
  high = λ b. ap res {y = p + (24578 - t)} (omega (arith, small b)) ∙ res-add modulus positive p (24578 - t)
      ∙ ap₂ ◌⊕◌ (alike p x same) (negated t (omega arith) ∙ ap ⊖◌ (multiplied z y t is));
}

-- a is the sum, u stands for it; d is the difference, v stands for z·d
pub joined-pair : (z x y a b d u v : ℕ) → a ≡ (x + y) % 65536 → (u % 12289 ≡ a % 12289) × (a < 49156 → u < 24578)
    → b ≡ (y + 24578) % 65536 → (d + x) % 65536 ≡ b → d < 65536 → (v < 24578) × (v % 12289 ≡ d * z % 12289) → JoinedPair z x y u v
joined-pair z x y a b d u v sum (same, small) over back short (below, is) = record {
  low_below = λ xs ys. small (omega arith);
  high_below = λ xs ys. below;
  low = λ xs ys. alike u a same ∙ ap res {y = x + y} (omega arith) ∙ res-add modulus positive x y;
  high = λ xs ys. multiplied z d v is
      ∙ ap (λ t. res z ⊗ t) (ap res {y = y + (24578 - x)} (omega arith) ∙ res-add modulus positive y (24578 - x) ∙ ap (λ t. res y ⊕ t) (negated x (omega arith)));
}
