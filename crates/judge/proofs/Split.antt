-- An inner product by the digits of one factor's residues.
use mathlib.Core.Path.{◌≡◌, sym, ap, ap₂, ◌∙◌}
use Prim.Native.Nat.{ℕ, zero, suc, ◌+◌, ◌*◌, ◌/◌, ◌%◌, ◌^◌, ◌<◌, ◌≤◌}
use native.Mathlib.Nat as Nat
use native.Mathlib.Omega.{arith}
use lib.IntN.{ℤ, pos, ◌*ℤ◌}
use Rattle.algebra.specs.Ring as R
use Rattle.algebra.specs.Ring.{CommRing}
use Rattle.algebra.specs.Integers.{ofℤ}
use Rattle.algebra.specs.Residues.{Zmod}
use Rattle.algebra.specs.Negacyclic.{negacyclic}
use Rattle.protocol.specs.Basic.{sum}
use Rattle.protocol.specs.Element.{Element, modulo, product, plus, times}
use Rattle.protocol.proofs.Modulo.{modulo-lt, modulo_add, modulo_times, modulo_residue}
use Rattle.claims.proofs.Readings.{read-plus, read-times, read-product, readq, readq-inj, readq_ext}
use Rattle.protocol.specs.Opening.{inner}
use Rattle.judge.specs.Digits.{digit, digit_at}

-- ---- digits

pub digit_most : (q base : ℕ) (z : ℤ) → digit q base 65536 z < 65536
unfolding digit
digit_most q base z = omega arith

-- the two digits from a weight on, as the code takes them
pub first_digit : (q base : ℕ) (z : ℤ) → modulo q z / base / 1 % 65536 ≡ digit q base 65536 z
unfolding digit
first_digit q base z = ap (λ m. m % 65536) (Nat.div-one (modulo q z / base))

pub second_digit : (q base : ℕ) (z : ℤ) → modulo q z / base / 65536 % 65536 ≡ digit q (base * 65536) 65536 z
unfolding digit
second_digit q base z = ap (λ m. m % 65536) (Nat.div-div-eq-div-mul (modulo q z) base 65536)

-- a digit of 32 bits is two of 16
digit-pair : (q base : ℕ) (z : ℤ) → digit q base 65536 z + 65536 * digit q (base * 65536) 65536 z ≡ digit q base (2 ^ 32) z
unfolding digit
digit-pair q base z = omega (arith, Nat.div-div-eq-div-mul (modulo q z) base 65536)

module _ (q : ℕ) (p : 0 < q) (z : ℤ) where
  -- a residue is two digits of 32 bits, or one where it is small
  digit-whole : q ≤ 2 ^ 61 → digit q 1 (2 ^ 32) z + 2 ^ 32 * digit q (2 ^ 32) (2 ^ 32) z ≡ modulo q z
  unfolding digit
  digit-whole most = omega (arith, modulo-lt q p z, Nat.div-one (modulo q z))

  digit_only : q ≤ 2 ^ 32 → digit q 1 (2 ^ 32) z ≡ modulo q z
  unfolding digit
  digit_only most = omega (arith, modulo-lt q p z, Nat.div-one (modulo q z))

-- ---- an element a that is low + w·high modulo q

module _ (q d w : ℕ) (p : 0 < q) (pd : 0 < d) where
  abbrev Q : CommRing
  Q = negacyclic (Zmod q p) d pd

  abbrev rd : Element → Q.C
  rd = readq q p d pd

  abbrev Parts : Element → Element → Element → Type 0
  Parts a low high = (j : ℕ) → j < d → modulo q (plus low (times (pos w) high) j) ≡ modulo q (a j)

  module _ (a low high g : Element) (parts : Parts a low high) where
    -- the product is linear in its first factor, and only the residues of that matter
    products : rd (product d a g) ≡ rd (plus (product d low g) (times (pos w) (product d high g)))
    products =
        read-product (Zmod q p) d pd a g
        ∙ ap (λ x. Q.mul x (rd g)) (sym (readq_ext q p d pd (plus low (times (pos w) high)) a parts)
        ∙ read-plus (Zmod q p) d pd low (times (pos w) high) ∙ ap (Q.add (rd low)) (read-times (Zmod q p) d pd (pos w) high))
        ∙ R.add-mul Q (rd low) (Q.mul (ofℤ Q (pos w)) (rd high)) (rd g)
        ∙ ap₂ Q.add (sym (read-product (Zmod q p) d pd low g))
        (Q.mul_assoc (ofℤ Q (pos w)) (rd high) (rd g) ∙ ap (Q.mul (ofℤ Q (pos w))) (sym (read-product (Zmod q p) d pd high g))
        ∙ sym (read-times (Zmod q p) d pd (pos w) (product d high g)))
        ∙ sym (read-plus (Zmod q p) d pd (product d low g) (times (pos w) (product d high g)))

    product-split : (k : ℕ) → k < d → modulo q (product d a g k) ≡ (modulo q (product d low g k) + w * modulo q (product d high g k)) % q
    unfolding plus times
    product-split k h =
        readq-inj q p d pd (product d a g) (plus (product d low g) (times (pos w) (product d high g))) products k h
        ∙ modulo_add q p (product d low g k) (pos w *ℤ product d high g k)
        ∙ ap (λ y. (modulo q (product d low g k) + y) % q) (modulo_times q p w (product d high g k))
        ∙ Nat.add-mod-mod (modulo q (product d low g k)) (w * modulo q (product d high g k)) q

  -- a sum of two pairs
  pairs-sum : (a b a' b' : ℕ) → ((a + w * b) % q + (a' + w * b') % q) % q ≡ ((a + a') % q + w * ((b + b') % q)) % q
  unfolding modulo
  pairs-sum a b a' b' =
      sym (Nat.add-mod (a + w * b) (a' + w * b') q)
      ∙ ap (λ x. x % q) {x = a + w * b + (a' + w * b')} {y = a + a' + w * (b + b')} (omega (arith, Nat.mul-add w b b'))
      ∙ Nat.add-mod (a + a') (w * (b + b')) q
      ∙ ap (λ x. ((a + a') % q + x) % q) (modulo_times q p w (pos (b + b')))
      ∙ Nat.add-mod-mod ((a + a') % q) (w * ((b + b') % q)) q

  -- the inner product with such elements
  module _ (a low high g : ℕ → Element) (parts : (i : ℕ) → Parts (a i) (low i) (high i)) (k : ℕ) (h : k < d) where
    none : modulo q (pos 0) ≡ 0
    unfolding modulo
    none = Nat.zero-mod q

    inner-split : (n : ℕ) → modulo q (inner d n a g k) ≡ (modulo q (inner d n low g k) + w * modulo q (inner d n high g k)) % q
    unfolding inner sum
    inner-split zero = none ∙ sym (ap (λ x. (x + w * x) % q) none ∙ ap (λ x. x % q) {x = 0 + w * 0} {y = 0} (omega (arith, Nat.mul-zero w)) ∙ Nat.zero-mod q)
    inner-split (suc n) =
        modulo_add q p (inner d n a g k) (product d (a n) (g n) k)
        ∙ (λ i. (inner-split n i + product-split (a n) (low n) (high n) (g n) (parts n) k h i) % q)
        ∙ pairs-sum _ _ _ _
        ∙ sym (λ i. (modulo_add q p (inner d n low g k) (product d (low n) (g n) k) i + w * modulo_add q p (inner d n high g k) (product d (high n) (g n) k) i) % q)

-- ---- the same by digits

module _ (q d : ℕ) (p : 0 < q) (pd : 0 < d) (a g : ℕ → Element) (k : ℕ) (h : k < d) (n : ℕ) where
  -- the elements' digits, and their inner product
  abbrev digits : ℕ → ℕ → ℕ → Element
  digits base size i = digit_at q base size (a i)

  abbrev part : ℕ → ℕ → ℕ
  part base size = modulo q (inner d n (digits base size) g k)

  pub inner-pair : (base : ℕ) → (part base 65536 + 65536 * part (base * 65536) 65536) % q ≡ part base (2 ^ 32)
  unfolding plus times digit_at
  inner-pair base =
      sym (inner-split q d 65536 p pd (digits base (2 ^ 32)) (digits base 65536) (digits (base * 65536) 65536) g
      (λ i j l. ap (λ x. modulo q (pos x)) (digit-pair q base (a i j))) k h n)

  pub inner-whole : q ≤ 2 ^ 61 → (part 1 (2 ^ 32) + 2 ^ 32 * part (2 ^ 32) (2 ^ 32)) % q ≡ modulo q (inner d n a g k)
  unfolding plus times digit_at
  inner-whole most =
      sym (inner-split q d (2 ^ 32) p pd a (digits 1 (2 ^ 32)) (digits (2 ^ 32) (2 ^ 32)) g
      (λ i j l. ap (λ x. modulo q (pos x)) (digit-whole q p (a i j) most) ∙ modulo_residue q p _ (modulo-lt q p (a i j))) k h n)

  -- the one digit with the weight 0 for another
  pub inner_only : q ≤ 2 ^ 32 → part 1 (2 ^ 32) ≡ modulo q (inner d n a g k)
  unfolding plus times digit_at
  inner_only most =
      sym (inner-split q d 0 p pd a (digits 1 (2 ^ 32)) (digits 1 (2 ^ 32)) g
      (λ i j l. ap (λ x. modulo q (pos x)) (omega (arith, digit_only q p (a i j) most)) ∙ modulo_residue q p _ (modulo-lt q p (a i j))) k h n
      ∙ ap (λ x. x % q) (omega arith)
      ∙ Nat.mod-eq_of_lt (modulo-lt q p (inner d n (digits 1 (2 ^ 32)) g k)))
