-- Division of 2·a by 1 − X^k by doubling k: after j doublings a has become a·(1 − X^(2^j·k))/(1 − X^k), and once 2^j·k is d on the circle of 2d exponents the numerator is 2·a.
use mathlib.Core.Path.{◌≡◌, sym, ap, ◌∙◌, subst}
use mathlib.Core.Bool.{Bool, false, false≢true}
use mathlib.Core.List.{List}
use Prim.Native.Nat.{ℕ, zero, suc, ◌+◌, ◌*◌, ◌/◌, ◌%◌, ◌^◌, ◌<◌, ◌≤◌}
use native.Mathlib.Nat as Nat
use native.Mathlib.Decide.{ℕ_discrete, dec_lt}
use native.Mathlib.Numerals.{add-one}
use native.Mathlib.Omega.{arith}
use borrow.Author.Tests.{eq-eqb, eqb-true}
use lib.Dec.{eqb}
use lib.ListN.{length, get_or}
use lib.Seq.{ext_get_or}
use lib.Pow as Pow
use lib.IntN.{ℤ, pos, nat_abs, ◌+ℤ◌}
use Rattle.protocol.specs.Basic.{least}
use Rattle.protocol.specs.Element.{Element, rotate, plus, signed}
use Rattle.protocol.proofs.Tests.{least_first, least_is}
use Rattle.claims.proofs.Bounds.{Bounded, rotate-bounded, plus-bounded}
use Rattle.residues.proofs.Fill.{filled, filled_at, filled-behind, filled-length, filled_ext, filled-again}
use Rattle.protocol.proofs.Agreement.{rotate_same}
use Rattle.protocol.proofs.Rotation.{rotate-mod}
use Rattle.extraction.specs.Bounds.{Summable, Doubling}
use Rattle.extraction.specs.Steps.{rotated_added, summed, doublings_most, doublings, divided}

-- ---- doubling on the circle

double-mod : (x m : ℕ) → 2 * (x % m) % m ≡ 2 * x % m
double-mod x m =
    ap (λ n. n % m) (Nat.two-mul (x % m))
    ∙ Nat.add-mod-mod (x % m) x m
    ∙ Nat.mod-add-mod x m x
    ∙ ap (λ n. n % m) (sym (Nat.two-mul x))

mod-double : (x m : ℕ) → 0 < m → 2 * x % (2 * m) ≡ 2 * (x % m)
mod-double x m p =
    (let whole : 2 * x ≡ 2 * (x % m) + x / m * (2 * m) = omega (arith, Nat.div-add-mod' x m) in ap (λ n. n % (2 * m)) whole)
    ∙ Nat.add-mul-mod_self_right (2 * (x % m)) (x / m) (2 * m)
    ∙ Nat.mod-eq_of_lt (omega (arith, Nat.mod-lt x p))

pub power_next : (k j : ℕ) → k * 2 ^ (j + 1) ≡ 2 * (k * 2 ^ j)
power_next k j = ap (λ n. k * n) (ap (λ n. 2 ^ n) (add-one j) ∙ Nat.pow-succ' 2 j) ∙ omega arith

pub next-exponent : (d k j : ℕ) → 2 * (k * 2 ^ j % (2 * d)) % (2 * d) ≡ k * 2 ^ (j + 1) % (2 * d)
next-exponent d k j = double-mod (k * 2 ^ j) (2 * d) ∙ ap (λ n. n % (2 * d)) (sym (power_next k j))

-- d = 2^D is met after at most D doublings
record Met (D k : ℕ) : Type 0 where
  after : ℕ
  at_most : after ≤ D
  is : k * 2 ^ after % (2 * 2 ^ D) ≡ 2 ^ D

met_even : (D k : ℕ) → k % 2 ≡ 0 → Met D (k / 2) → Met (suc D) k
met_even D k e m = record {
  after = m.after;
  at_most = omega (arith, m.at_most);
  is =
      ap (λ n. k * 2 ^ m.after % (2 * n)) twice
      ∙ ap (λ n. n % (2 * (2 * 2 ^ D))) even
      ∙ mod-double (k / 2 * 2 ^ m.after) (2 * 2 ^ D) (omega (arith, Pow.pow_pos D))
      ∙ ap (λ n. 2 * n) m.is
      ∙ sym twice;
}
  where
    twice : 2 ^ suc D ≡ 2 * 2 ^ D
    twice = Nat.pow-succ' 2 D

    even : k * 2 ^ m.after ≡ 2 * (k / 2 * 2 ^ m.after)
    even = (let half : k ≡ 2 * (k / 2) = omega arith in ap (λ n. n * 2 ^ m.after) half) ∙ Nat.mul_assoc 2 (k / 2) (2 ^ m.after)

met-odd : (D k : ℕ) → k % 2 ≡ 1 → Met D k
met-odd D k e = record {
  after = D;
  at_most = Nat.le_refl D;
  is = ap (λ n. n % (2 * 2 ^ D)) odd ∙ Nat.add-mul-mod_self_right (2 ^ D) (k / 2) (2 * 2 ^ D) ∙ Nat.mod-eq_of_lt (omega (arith, Pow.pow_pos D));
}
  where
    odd : k * 2 ^ D ≡ 2 ^ D + k / 2 * (2 * 2 ^ D)
    odd =
        (let half : k ≡ 1 + k / 2 * 2 = omega arith in ap (λ n. n * 2 ^ D) half)
        ∙ Nat.add-mul 1 (k / 2 * 2) (2 ^ D)
        ∙ (λ i. Nat.one-mul (2 ^ D) i + Nat.mul_assoc (k / 2) 2 (2 ^ D) i)

met : (D k : ℕ) → 0 < k → k < 2 * 2 ^ D → Met D k
met zero k p l = met-odd 0 k (let one : k ≡ 1 = omega (arith, Nat.pow-zero 2) in ap (λ n. n % 2) one)
met (suc D) k p l = elim (ℕ_discrete (k % 2) 0) [
  | yes e ↦ met_even D k e (met D (k / 2) (omega arith) (omega (arith, Nat.pow-succ' 2 D)))
  | no ne ↦ met-odd (suc D) k (omega arith)
]

abbrev meets : ℕ → ℕ → ℕ → Bool
meets d k j = eqb (k * 2 ^ j % (2 * d)) d

pub doublings-are : (d k j : ℕ) → j ≤ doublings_most → (j < doublings_most → k * 2 ^ j % (2 * d) ≡ d) → ((i : ℕ) → i < j → meets d k i ≡ false) → doublings d k ≡ j
unfolding doublings
doublings-are d k j h t none = least_is doublings_most (meets d k) j (record { at_most = h; holds = λ l. eq-eqb _ _ (t l); none_before = none })

module _ (d k D : ℕ) (is : d ≡ 2 ^ D) (p : 0 < k) (l : k < 2 * d) where
  M : Met D k
  M = met D k p (subst (λ n. k < 2 * n) is l)

  M_is : k * 2 ^ M.after % (2 * d) ≡ d
  M_is = subst (λ n. k * 2 ^ M.after % (2 * n) ≡ n) (sym is) M.is

  -- where it is not met yet, one doubling more leaves 2^j within d
  pub not_met : (j : ℕ) → ((i : ℕ) → i ≤ j → meets d k i ≡ false) → 2 ^ (j + 1) ≤ d
  not_met j none = elim (dec_lt j M.after) [
    | yes h ↦ subst (λ n. 2 ^ (j + 1) ≤ n) (sym is) (Pow.pow_mono {i = j + 1} (omega (arith, M.at_most)))
    | no g ↦ absurd (false≢true (sym (none M.after (omega arith)) ∙ eq-eqb _ _ M_is))
  ]

  pub doublings-meet : D ≤ 7 → k * 2 ^ doublings d k % (2 * d) ≡ d
  unfolding doublings
  doublings-meet h = let f = least_first doublings_most (meets d k) in eqb-true _ _ (f.holds (elim (dec_lt (least doublings_most (meets d k)) doublings_most) [
    | yes g ↦ g
    | no g ↦ absurd (false≢true (sym (f.none_before M.after (omega (arith, M.at_most, f.at_most))) ∙ eq-eqb _ _ M_is))
  ]))

  pub doublings-within : 2 ^ doublings d k ≤ d
  unfolding doublings
  doublings-within = let f = least_first doublings_most (meets d k) in elim (dec_lt M.after (least doublings_most (meets d k))) [
    | yes g ↦ absurd (false≢true (sym (f.none_before M.after g) ∙ eq-eqb _ _ M_is))
    | no g ↦ subst (λ n. 2 ^ least doublings_most (meets d k) ≤ n) (sym is) (Pow.pow_mono {i = least doublings_most (meets d k)} (omega (arith, M.at_most)))
  ]

-- ---- the sums

pub summed-bounded : (d k : ℕ) → 0 < d → (B : ℕ) (a : Element) → Bounded d B a → (j : ℕ) → Bounded d (2 ^ j * B) (summed d k j a)
unfolding summed
summed-bounded d k p B a w zero x l = omega (arith, w x l, ap (λ n. n * B) (Nat.pow-zero 2), Nat.one-mul B)
summed-bounded d k p B a w (suc j) x l =
    let so_far = summed-bounded d k p B a w j in
    let turned = rotate-bounded d p (2 ^ j * B) (k * 2 ^ j) (summed d k j a) so_far in
    let both = plus-bounded d p (2 ^ j * B) (2 ^ j * B) (summed d k j a) (rotate d (k * 2 ^ j) (summed d k j a)) so_far turned x l in
    omega (arith, both, ap (λ n. n * B) (Nat.two-pow-succ j), Nat.add-mul (2 ^ j) (2 ^ j) B)

pub divided-bounded : (d k D : ℕ) → d ≡ 2 ^ D → 0 < k → k < 2 * d → (B : ℕ) (a : Element) → Bounded d B a → Bounded d (d * B) (divided d k a)
unfolding divided
divided-bounded d k D is p l B a w x lx =
    let q : 0 < d = omega (arith, Pow.pow_pos D) in
    Nat.le_trans (summed-bounded d k q B a w (doublings d k) x lx) (Nat.mul-le-mul_right B (doublings-within d k D is p l))

-- a list that is filled with its own numbers
pub filled-own : (d : ℕ) (l : List ℤ) → d ≤ length l → l ≡ filled (signed l) d l
unfolding signed
filled-own d l h = ext_own
  where
    ext_own : l ≡ filled (λ k. get_or l k (pos 0)) d l
    ext_own = sym (ext_get_or (pos 0) _ l (filled-length _ d l h) (λ k _. elim (dec_lt k d) [ yes m ↦ filled_at _ d l (pos 0) k m | no m ↦ filled-behind _ d l (pos 0) k (omega arith) ]))

-- a turn of the loop: l as it was, w after j doublings
module _ (d k : ℕ) (p : 0 < d) (l w : List ℤ) (j : ℕ) (is : w ≡ filled (summed d k j (signed l)) d l) where
  w_at : (x : ℕ) → x < d → signed w x ≡ summed d k j (signed l) x
  w_at x h = ap (λ t. signed t x) is ∙ (unfold signed in filled_at (summed d k j (signed l)) d l (pos 0) x h)

  pub next-sum : (e : ℕ) → e ≡ k * 2 ^ j % (2 * d) → (q : List ℤ) → q ≡ rotated_added d e w w → q ≡ filled (summed d k (j + 1) (signed l)) d l
  unfolding rotated_added plus summed
  next-sum e is-e q is-q =
      is-q
      ∙ ap (λ t. filled (λ x. signed w x +ℤ rotate d e (signed w) x) d t) is
      ∙ filled-again (summed d k j (signed l)) (λ x. signed w x +ℤ rotate d e (signed w) x) d l
      ∙ filled_ext (λ x. signed w x +ℤ rotate d e (signed w) x) (summed d k (suc j) (signed l)) d l (λ x h i. w_at x h i +ℤ turned x i)
      ∙ ap (λ n. filled (summed d k n (signed l)) d l) (sym (add-one j))
    where
      turned : (x : ℕ) → rotate d e (signed w) x ≡ rotate d (k * 2 ^ j) (summed d k j (signed l)) x
      turned x = rotate_same p e w_at x ∙ ap (λ n. rotate d n (summed d k j (signed l)) x) is-e ∙ rotate-mod d (k * 2 ^ j) (summed d k j (signed l)) x

  pub sum-summable : Doubling d k l → length w ≡ length l → ((i : ℕ) → i ≤ j → meets d k i ≡ false) → Summable d w w
  unfolding signed
  sum-summable T same none =
      record { long = omega (arith, T.long); long_to = omega (arith, T.long); bound = 2 ^ j * T.bound; bound_to = 2 ^ j * T.bound; within = small; within_to = small; room = room }
    where
      small : (x : ℕ) → x < d → nat_abs (get_or w x (pos 0)) ≤ 2 ^ j * T.bound
      small x h = subst (λ z. nat_abs z ≤ 2 ^ j * T.bound) (sym (w_at x h)) (summed-bounded d k p T.bound (signed l) T.within j x h)

      room : 2 ^ j * T.bound + 2 ^ j * T.bound ≤ 2 ^ 62
      room =
          let within_d = Nat.mul-le-mul_right T.bound (not_met d k T.log T.degree_is T.some T.exponent j none) in
          omega (arith, T.room, within_d, ap (λ n. n * T.bound) (ap (λ n. 2 ^ n) (add-one j) ∙ Nat.two-pow-succ j), Nat.add-mul (2 ^ j) (2 ^ j) T.bound)
