-- What single steps on elements and lists leave, in the shape in which the code leaves it.
--
--   Mirrored d a x            the first 2d numbers of x are those of a with the other sign, and then with their own
--   row_added negative n x l  l with the first n numbers of x added to its first n numbers, or taken away
--   rotated_added d e a l     l with X^e·a added to its first d numbers
--   summed d k j a            a·(1 + X^k)·(1 + X^2k)·(1 + X^4k)·…, j factors
--   doublings_most            8: one more than an odd k takes at the largest degree, 2^7
--   doublings d k             how often k is doubled until it is d on the circle of 2d exponents; `doublings_most` where that is not met
--   divided d k a             2·a divided by 1 − X^k, where d is a power of two and k no multiple of 2d (Mu)
--   weighted d k₁ k₂ e a      the same for two k, times 1 + X^e
use Rattle.std.specs.Prelude.{◌≡◌, Bool, List, ℕ, zero, suc, ◌+◌, ◌*◌, ◌%◌, ◌^◌, ◌<◌, eqb, get_or, ℤ, pos, neg_ℤ, ◌+ℤ◌}
use Rattle.protocol.specs.Basic.{least}
use Rattle.protocol.specs.Element.{Element, rotate, plus, signed}
use Rattle.residues.specs.Lists.{filled}
use Rattle.residues.specs.Residues as R

pub record Mirrored (d : ℕ) (a x : List ℤ) : Type 0 where
  pub front : (k : ℕ) → k < d → get_or x k (pos 0) ≡ neg_ℤ (get_or a k (pos 0))
  pub back : (k : ℕ) → k < d → get_or x (d + k) (pos 0) ≡ get_or a k (pos 0)

unfoldable pub row_added : Bool → ℕ → List ℤ → List ℤ → List ℤ
row_added negative n x l = filled (λ k. get_or l k (pos 0) +ℤ R.signed negative (get_or x k (pos 0))) n l

unfoldable pub rotated_added : ℕ → ℕ → List ℤ → List ℤ → List ℤ
rotated_added d e a l = filled (plus (signed l) (rotate d e (signed a))) d l

unfoldable pub summed : ℕ → ℕ → ℕ → Element → Element
summed d k zero a = a
summed d k (suc j) a = plus (summed d k j a) (rotate d (k * 2 ^ j) (summed d k j a))

abbrev pub doublings_most : ℕ
doublings_most = 8

unfoldable pub doublings : ℕ → ℕ → ℕ
doublings d k = least doublings_most (λ j. eqb (k * 2 ^ j % (2 * d)) d)

unfoldable pub divided : ℕ → ℕ → Element → Element
divided d k a = summed d k (doublings d k) a

unfoldable pub weighted : ℕ → ℕ → ℕ → ℕ → Element → Element
weighted d k₁ k₂ e a = plus (divided d k₂ (divided d k₁ a)) (rotate d e (divided d k₂ (divided d k₁ a)))
