-- THE JOIN: sums that run over the lower and over the upper halves of residues stand, joined, for the sum over the residues.
use Rattle.std.proofs.Common.{◌≡◌, ℕ, suc, ◌+◌, ◌-◌, ◌*◌, ◌/◌, ◌%◌, ◌^◌, ◌<◌, ◌≤◌, cond, ℤ, pos, negsuc, ◌+ℤ◌, ◌*ℤ◌, nat_abs, sym, refl, ap, ◌∙◌, arith, le-ltb}
use native.Mathlib.Nat as Nat
use lib.IntN.{+ℤ_assoc, +ℤ_comm, +ℤ_idr, *ℤ_comm, *ℤ-zero}
use Rattle.algebra.specs.Integers.{*ℤ_assoc, *ℤ_+ℤ}
use Rattle.algebra.specs.Magnitude.{nat_abs-add, nat_abs_mul}
use Rattle.protocol.specs.Element.{modulo}
use Rattle.protocol.proofs.Modulo.{modulo-lt, modulo_add, modulo_times, times_mod}
use Rattle.joins.specs.Sums.{weight, lower_half, upper_half, room, Halves}

-- ---- the halves of a product

-- (a + b) + (c + d) is (a + c) + (b + d)
exchange : (a b c d : ℤ) → (a +ℤ b) +ℤ (c +ℤ d) ≡ (a +ℤ c) +ℤ (b +ℤ d)
exchange a b c d =
    +ℤ_assoc a b (c +ℤ d)
    ∙ ap (λ x. a +ℤ x) (sym (+ℤ_assoc b c d) ∙ ap (λ x. x +ℤ d) (+ℤ_comm b c) ∙ +ℤ_assoc c b d)
    ∙ sym (+ℤ_assoc a c (b +ℤ d))

-- joined sums, added
joined-add : (w l u l' u' : ℤ) → (l +ℤ l') +ℤ w *ℤ (u +ℤ u') ≡ (l +ℤ w *ℤ u) +ℤ (l' +ℤ w *ℤ u')
joined-add w l u l' u' = ap (λ x. (l +ℤ l') +ℤ x) (*ℤ_+ℤ w u u') ∙ exchange l l' (w *ℤ u) (w *ℤ u')

whole : (x : ℕ) → pos (lower_half x) +ℤ pos weight *ℤ pos (upper_half x) ≡ pos x
whole x = ap pos (Nat.mod-add-div x weight)

product-halves : (a : ℤ) (x : ℕ) → a *ℤ pos (lower_half x) +ℤ pos weight *ℤ (a *ℤ pos (upper_half x)) ≡ a *ℤ pos x
product-halves a x =
    ap (λ y. a *ℤ pos (lower_half x) +ℤ y) (sym (*ℤ_assoc (pos weight) a (pos (upper_half x))) ∙ ap (λ y. y *ℤ pos (upper_half x)) (*ℤ_comm (pos weight) a) ∙ *ℤ_assoc a (pos weight) (pos (upper_half x)))
    ∙ sym (*ℤ_+ℤ a (pos (lower_half x)) (pos weight *ℤ pos (upper_half x)))
    ∙ ap (λ y. a *ℤ y) (whole x)

-- ---- sums that grow

pub halves_same : (q : ℕ) (z y : ℤ) (b s t : ℕ) → modulo q z ≡ modulo q y → Halves q z b s t → Halves q y b s t
halves_same q z y b s t e H = record {
  lower = H.lower;
  upper = H.upper;
  lower_size = H.lower_size;
  upper_size = H.upper_size;
  lower_bits = H.lower_bits;
  upper_bits = H.upper_bits;
  value = H.value ∙ e;
  none = H.none;
}

pub halves-within : (q : ℕ) (z : ℤ) (b c s t : ℕ) → b ≤ c → Halves q z b s t → Halves q z c s t
halves-within q z b c s t l H = record {
  lower = H.lower;
  upper = H.upper;
  lower_size = Nat.le_trans H.lower_size l;
  upper_size = Nat.le_trans H.upper_size l;
  lower_bits = H.lower_bits;
  upper_bits = H.upper_bits;
  value = H.value;
  none = H.none;
}

-- one product
pub halves_product : (q : ℕ) (a : ℤ) (x c : ℕ) → q ≤ 2 ^ 61 → nat_abs a ≤ c → x ≤ q
    → Halves q (a *ℤ pos x) (c * weight) (modulo (2 ^ 64) (a *ℤ pos (lower_half x))) (modulo (2 ^ 64) (a *ℤ pos (upper_half x)))
halves_product q a x c most small below = record {
  lower = a *ℤ pos (lower_half x);
  upper = a *ℤ pos (upper_half x);
  lower_size = Nat.le_trans (Nat.le_of_eq (nat_abs_mul a (pos (lower_half x)))) (Nat.mul-le-mul {m₂ = weight} small (omega arith));
  upper_size = Nat.le_trans (Nat.le_of_eq (nat_abs_mul a (pos (upper_half x)))) (Nat.mul-le-mul {m₂ = weight} small (omega arith));
  lower_bits = refl;
  upper_bits = refl;
  value = ap (modulo q) (product-halves a x);
  none = λ l. ap (λ n. modulo (2 ^ 64) (a *ℤ pos n)) {y = 0} (omega arith) ∙ ap (modulo (2 ^ 64)) (*ℤ-zero a) ∙ unfold modulo in refl;
}

-- a number that has no upper half
pub halves-lower : (q : ℕ) (z : ℤ) (c : ℕ) → nat_abs z ≤ c → Halves q z c (modulo (2 ^ 64) z) 0
unfolding modulo
halves-lower q z c small = record {
  lower = z;
  upper = pos 0;
  lower_size = small;
  upper_size = omega arith;
  lower_bits = refl;
  upper_bits = refl;
  value = ap (modulo q) (ap (λ y. z +ℤ y) (*ℤ-zero (pos weight)) ∙ +ℤ_idr z);
  none = λ l. refl;
}

module _ (q : ℕ) (p : 0 < q) where
  pub halves-none : Halves q (pos 0) 0 0 0
  unfolding modulo
  halves-none = record { lower = pos 0; upper = pos 0; lower_size = omega arith; upper_size = omega arith; lower_bits = refl; upper_bits = refl; value = refl; none = λ l. refl }

  -- more of both halves
  pub halves-add : (z y : ℤ) (b c s t s' t' l u : ℕ) → Halves q z b s t → Halves q y c l u → s' ≡ (s + l) % 2 ^ 64 → t' ≡ (t + u) % 2 ^ 64 → Halves q (z +ℤ y) (b + c) s' t'
  halves-add z y b c s t s' t' l u H I es et = record {
    lower = H.lower +ℤ I.lower;
    upper = H.upper +ℤ I.upper;
    lower_size = omega (arith, nat_abs-add H.lower I.lower, H.lower_size, I.lower_size);
    upper_size = omega (arith, nat_abs-add H.upper I.upper, H.upper_size, I.upper_size);
    lower_bits = es ∙ (λ i. (H.lower_bits i + I.lower_bits i) % 2 ^ 64) ∙ sym (modulo_add (2 ^ 64) (omega arith) H.lower I.lower);
    upper_bits = et ∙ (λ i. (H.upper_bits i + I.upper_bits i) % 2 ^ 64) ∙ sym (modulo_add (2 ^ 64) (omega arith) H.upper I.upper);
    value =
        ap (modulo q) (joined-add (pos weight) H.lower H.upper I.lower I.upper)
        ∙ modulo_add q p (H.lower +ℤ pos weight *ℤ H.upper) (I.lower +ℤ pos weight *ℤ I.upper)
        ∙ (λ i. (H.value i + I.value i) % q)
        ∙ sym (modulo_add q p z y);
    none = λ l. omega (arith, et, H.none l, I.none l);
  }

-- ---- a sum with an offset, which makes it positive

pub multiple-divided : (q : ℕ) → 0 < q → (2 ^ 63 - 2 ^ 63 % q) % q ≡ 0
multiple-divided q p = ap (λ x. x % q) {y = 2 ^ 63 / q * q} (omega (arith, Nat.div-add-mod' (2 ^ 63) q)) ∙ Nat.mul-mod_left (2 ^ 63 / q) q

-- w is at most 2^62 from 0, s is w modulo 2^64, and n is from 2^62 to 2^63
pub record Raised (w : ℤ) (s n : ℕ) : Type 0 where
  pub is : w +ℤ pos n ≡ pos ((s + n) % 2 ^ 64)
  pub most : (s + n) % 2 ^ 64 ≤ 2 ^ 62 + n

lifted : (w : ℤ) (n : ℕ) → nat_abs w ≤ n → (m : ℕ) × (w +ℤ pos n ≡ pos m) × (m ≤ nat_abs w + n)
lifted (pos m) n h = (m + n, refl, Nat.le_refl (m + n))
lifted (negsuc m) n h = (n - suc m, ap (λ b. cond b (negsuc (suc m - suc n)) (pos (n - suc m))) (le-ltb _ _ h), omega arith)

pub raised : (w : ℤ) (s n : ℕ) → nat_abs w ≤ room → s ≡ modulo (2 ^ 64) w → room ≤ n → n ≤ 2 ^ 63 → Raised w s n
unfolding modulo
raised w s n small e least most =
    let up = lifted w n (omega arith) in
    let same : (s + n) % 2 ^ 64 ≡ up.0 = ap (λ x. (x + n) % 2 ^ 64) e ∙ sym (Nat.add-mod-mod (modulo (2 ^ 64) w) n (2 ^ 64))
    ∙ sym (modulo_add (2 ^ 64) (omega arith) w (pos n)) ∙ ap (modulo (2 ^ 64)) up.1 ∙ Nat.mod-eq_of_lt (omega (arith, up.2)) in
    record { is = up.1 ∙ ap pos (sym same); most = omega (arith, same, up.2) }

-- a number near 0 that is 0 modulo 2^64
nothing : (w : ℤ) → nat_abs w ≤ room → 0 ≡ modulo (2 ^ 64) w → w ≡ pos 0
unfolding modulo
nothing (pos n) small e = ap pos (omega arith)
nothing (negsuc n) small e = absurd (omega arith)

module _ (q : ℕ) (p : 0 < q) (n : ℕ) (divided : n % q ≡ 0) where
  -- an offset that q divides changes no residue
  raised-residue : (w : ℤ) (s : ℕ) → Raised w s n → (s + n) % 2 ^ 64 % q ≡ modulo q w
  unfolding modulo
  raised-residue w s R =
      sym (ap (modulo q) R.is) ∙ modulo_add q p w (pos n) ∙ ap (λ x. (modulo q w + x) % q) divided ∙ ap (λ x. x % q) (Nat.add-zero (modulo q w)) ∙ Nat.mod-eq_of_lt (modulo-lt q p w)

  -- what the code works out
  module _ (most : q ≤ 2 ^ 61) (least : room ≤ n) (n-most : n ≤ 2 ^ 63) (z : ℤ) (s t : ℕ) (H : Halves q z room s t) where
    lower-raised : Raised H.lower s n
    lower-raised = raised H.lower s n H.lower_size H.lower_bits least n-most

    upper-raised : Raised H.upper t n
    upper-raised = raised H.upper t n H.upper_size H.upper_bits least n-most

    -- with no upper halves
    pub lower-joined : q < weight → (l : ℕ) → l ≡ (s + n) % 2 ^ 64 → l % q ≡ modulo q z
    lower-joined few l el =
        ap (λ x. x % q) el
        ∙ raised-residue H.lower s lower-raised
        ∙ ap (modulo q) (sym (ap (λ y. H.lower +ℤ y) (ap (λ u. pos weight *ℤ u) (nothing H.upper H.upper_size (sym (H.none few) ∙ H.upper_bits)) ∙ *ℤ-zero (pos weight)) ∙ +ℤ_idr H.lower))
        ∙ H.value

    pub joined_is : (l u : ℕ) → l ≡ (s + n) % 2 ^ 64 → u ≡ (t + n) % 2 ^ 64 * weight % q → (l + u) % 2 ^ 64 % q ≡ modulo q z
    joined_is l u el eu =
        ap (λ x. x % q) (Nat.mod-eq_of_lt (omega (arith, el, eu, lower-raised.most, Nat.mod-lt ((t + n) % 2 ^ 64 * weight) p)))
        ∙ Nat.add-mod l u q
        ∙ (λ i. (lower_is i + upper_is i) % q)
        ∙ sym (modulo_add q p H.lower (pos weight *ℤ H.upper))
        ∙ H.value
      where
        lower_is : l % q ≡ modulo q H.lower
        lower_is = ap (λ x. x % q) el ∙ raised-residue H.lower s lower-raised

        upper_is : u % q ≡ modulo q (pos weight *ℤ H.upper)
        upper_is = ap (λ x. x % q) (eu ∙ ap (λ x. x % q) (Nat.mul_comm ((t + n) % 2 ^ 64) weight)) ∙ Nat.mod-mod _ q ∙ sym (times_mod q p weight ((t + n) % 2 ^ 64))
            ∙ ap (λ x. weight * x % q) (raised-residue H.upper t upper-raised) ∙ sym (modulo_times q p weight H.upper)
