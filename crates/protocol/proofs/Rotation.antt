-- What stands at a place of an element, going round by X^d = −1, and rotations: one by its three zones (for an exponent e below 2d, place k of X^e·a is
-- a_(k−e), −a_(k+d−e) or a_(k+2d−e)), several in a row, and which places they read.
use mathlib.Core.Path.{◌≡◌, refl, sym, ap, ◌∙◌}
use Prim.Native.Nat.{ℕ, zero, suc, ◌+◌, ◌*◌, ◌-◌, ◌/◌, ◌%◌, ◌<◌, ◌≤◌}
use native.Mathlib.Nat as Nat
use native.Mathlib.Decide.{dec_lt}
use native.Mathlib.Numerals.{add-one}
use native.Mathlib.Omega.{arith}
use lib.IntN.{neg_ℤ, neg_ℤ-neg_ℤ}
use Rattle.protocol.specs.Element.{Element, flips, around, rotate}

module _ (d : ℕ) (a : Element) (y : ℕ) where
  -- place r of round p
  passes : (p r : ℕ) → y ≡ r + p * d → r < d → around d a y ≡ flips p (a r)
  unfolding around
  passes p r h l =
      ap (λ x. flips (x / d) (a (x % d))) h
      ∙ (λ i. flips ((Nat.add-mul-div_right r p (omega arith) ∙ ap (λ z. z + p) (Nat.div-eq_of_lt l) ∙ Nat.zero-add p) i) (a ((Nat.add-mul-mod_self_right r p d ∙ Nat.mod-eq_of_lt l) i)))

  pub around_first : y < d → around d a y ≡ a y
  unfolding flips
  around_first h = passes 0 y (omega (arith, Nat.zero-mul d)) h

  pub around_second : d ≤ y → y < d + d → around d a y ≡ neg_ℤ (a (y - d))
  unfolding flips
  around_second h l = passes 1 (y - d) (omega arith) (omega arith)

  pub around-third : d + d ≤ y → y < 3 * d → around d a y ≡ a (y - d - d)
  unfolding flips
  around-third h l = passes 2 (y - d - d) (omega arith) (omega arith) ∙ neg_ℤ-neg_ℤ (a (y - d - d))

-- only the places below d are read
pub around_ext : (d : ℕ) {a b : Element} (y : ℕ) → 0 < d → ((k : ℕ) → k < d → a k ≡ b k) → around d a y ≡ around d b y
unfolding around
around_ext d y p h = ap (flips (y / d)) (h (y % d) (Nat.mod-lt y p))

-- one round on, the sign changes
pub around_next : (d : ℕ) (a : Element) (y : ℕ) → 0 < d → around d a (y + d) ≡ neg_ℤ (around d a y)
unfolding around flips
around_next d a y p = λ i. flips ((Nat.add-div_right y p ∙ add-one (y / d)) i) (a (Nat.add-mod_right y d i))

-- the rotation by an exponent below 2d
pub rotate_at : (d e : ℕ) (a : Element) (k : ℕ) → e < 2 * d → rotate d e a k ≡ around d a (k + (d + d - e))
unfolding rotate
rotate_at d e a k h = ap (λ x. around d a (k + (2 * d - x))) (Nat.mod-eq_of_lt h) ∙ ap (λ n. around d a (k + (n - e))) (omega arith)

-- ---- rotations in a row

module _ (d : ℕ) (p : 0 < d) where
  around-rounds : (a : Element) (y n : ℕ) → around d a (y + n * d) ≡ flips n (around d a y)
  unfolding flips
  around-rounds a y zero = ap (around d a) (omega (arith, Nat.zero-mul d))
  around-rounds a y (suc n) =
      ap (around d a) {y = y + n * d + d} (omega (arith, Nat.suc-mul n d)) ∙ around_next d a (y + n * d) p ∙ ap neg_ℤ (around-rounds a y n)

  -- a whole turn
  around-turn : (a : Element) (y : ℕ) → around d a (y + 2 * d) ≡ around d a y
  unfolding flips
  around-turn a y = around-rounds a y 2 ∙ neg_ℤ-neg_ℤ (around d a y)

  opened : (a : Element) (n y : ℕ) → around d (λ k. around d a (k + n)) y ≡ flips (y / d) (around d a (y % d + n))
  unfolding around
  opened a n y = refl

  -- to go round an element that was moved n places on is to go n places further
  around-moved : (a : Element) (n y : ℕ) → around d (λ k. around d a (k + n)) y ≡ around d a (y + n)
  around-moved a n y =
      opened a n y
      ∙ sym (around-rounds a (y % d + n) (y / d))
      ∙ ap (around d a) (omega (arith, Nat.mod-add-div' y d))

  back : (a : Element) (e f k : ℕ) → e < 2 * d → f < 2 * d → around d a (k + (2 * d - e) + (2 * d - f)) ≡ around d a (k + (2 * d - (e + f) % (2 * d)))
  back a e f k le lf = elim (dec_lt (e + f) (2 * d)) [
    | yes h ↦ ap (around d a) {y = k + (2 * d - (e + f)) + 2 * d} (omega arith) ∙ around-turn a (k + (2 * d - (e + f))) ∙ ap (λ x. around d a (k + (2 * d - x))) (sym (Nat.mod-eq_of_lt h))
    | no h ↦ ap (around d a) {y = k + (2 * d - (e + f - 2 * d))} (omega arith) ∙ ap (λ x. around d a (k + (2 * d - x))) (sym (Nat.mod-eq-sub-mod (omega arith) ∙ Nat.mod-eq_of_lt (omega arith)))
  ]

  pub rotate-rotate : (e f : ℕ) (a : Element) (k : ℕ) → rotate d e (rotate d f a) k ≡ rotate d (e + f) a k
  unfolding rotate
  rotate-rotate e f a k =
      around-moved a (2 * d - f % (2 * d)) (k + (2 * d - e % (2 * d)))
      ∙ back a (e % (2 * d)) (f % (2 * d)) k (Nat.mod-lt e (omega arith)) (Nat.mod-lt f (omega arith))
      ∙ ap (λ x. around d a (k + (2 * d - x))) (sym (Nat.add-mod e f (2 * d)))

pub rotate-mod : (d e : ℕ) (a : Element) (k : ℕ) → rotate d (e % (2 * d)) a k ≡ rotate d e a k
unfolding rotate
rotate-mod d e a k = ap (λ x. around d a (k + (2 * d - x))) (Nat.mod-mod e (2 * d))

-- the same where the sum of the exponents goes round
pub rotate-add : (d : ℕ) → 0 < d → (e f g : ℕ) → (e + f) % (2 * d) ≡ g % (2 * d) → (a : Element) (k : ℕ) → rotate d e (rotate d f a) k ≡ rotate d g a k
rotate-add d p e f g h a k = rotate-rotate d p e f a k ∙ sym (rotate-mod d (e + f) a k) ∙ ap (λ n. rotate d n a k) h ∙ rotate-mod d g a k

-- ---- one rotation, zone by zone

module _ (d e : ℕ) (a : Element) (k : ℕ) (le : e < 2 * d) (lk : k < d) where
  -- place r after p rounds
  turns : (p r : ℕ) → k + (2 * d - e) ≡ r + p * d → r < d → rotate d e a k ≡ flips p (a r)
  unfolding rotate
  turns p r h l = ap (λ x. around d a (k + (2 * d - x))) (Nat.mod-eq_of_lt le) ∙ passes d a (k + (2 * d - e)) p r h l

  pub rotate-plus : e ≤ k → rotate d e a k ≡ a (k - e)
  unfolding flips
  rotate-plus h = turns 2 (k - e) (omega arith) (omega arith) ∙ neg_ℤ-neg_ℤ (a (k - e))

  pub rotate-minus : k < e → e ≤ k + d → rotate d e a k ≡ neg_ℤ (a (k + d - e))
  unfolding flips
  rotate-minus h l = turns 1 (k + d - e) (omega arith) (omega arith)

  pub rotate-again : k + d < e → rotate d e a k ≡ a (k + d + d - e)
  unfolding flips
  rotate-again h = turns 0 (k + d + d - e) (omega (arith, Nat.zero-mul d)) (omega arith)
