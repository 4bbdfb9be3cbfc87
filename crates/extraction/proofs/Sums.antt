-- Sums with rows of numbers, and with a rotation, which is a row of two copies with different signs.
use mathlib.Core.Path.{◌≡◌, refl, sym, ap, ◌∙◌, subst}
use mathlib.Core.Bool.{Bool, true, false, not}
use mathlib.Core.List.{List}
use Prim.Native.Nat.{ℕ, ◌+◌, ◌*◌, ◌-◌, ◌^◌, ◌<◌, ◌≤◌}
use native.Mathlib.Decide.{dec_lt}
use native.Mathlib.Omega.{arith}
use lib.Dec.{ltb}
use lib.ListN.{length, get_or, take, drop, set, length-drop}
use lib.Seq.{get_or-drop}
use lib.IntN.{ℤ, pos, neg_ℤ, neg_ℤ-neg_ℤ, nat_abs, ◌+ℤ◌}
use Rattle.algebra.specs.Magnitude.{nat_abs-add, nat_abs-neg}
use Rattle.protocol.specs.Element.{rotate, plus, signed}
use Rattle.protocol.proofs.Agreement.{rotate_same}
use Rattle.claims.proofs.Bounds.{rotate-bounded}
use Rattle.residues.specs.Places.{SecondRow}
use Rattle.residues.specs.Residues as R
use Rattle.residues.proofs.Fill.{filled, filled-behind, filled_ext, filled-turn}
use Rattle.residues.proofs.Parts.{tail_at, tail-length}
use Rattle.residues.proofs.Turns.{front-turn, back_turn}
use Rattle.extraction.specs.Bounds.{Mirrorable, Summable}
use Rattle.extraction.specs.Steps.{Mirrored, row_added, rotated_added}

-- ---- a row

signed-nat_abs : (negative : Bool) (y : ℤ) → nat_abs (R.signed negative y) ≡ nat_abs y
unfolding R.signed
signed-nat_abs true y = nat_abs-neg y
signed-nat_abs false y = refl

-- number k afterwards
abbrev pub sums : Bool → List ℤ → List ℤ → ℕ → ℤ
sums negative x l k = get_or l k (pos 0) +ℤ R.signed negative (get_or x k (pos 0))

-- a turn: l is the list at entry, m as the loop has it, and u and v are the numbers that are read
module _ (negative : Bool) (n : ℕ) (x l : List ℤ) (S : Summable n x l) (k : ℕ) (lt : k < n) {m : List ℤ} (e : m ≡ filled (sums negative x l) k l)
    {u v : ℤ} (is-u : u ≡ get_or m k (pos 0)) (is-v : v ≡ get_or x k (pos 0)) where
  both : u +ℤ R.signed negative v ≡ sums negative x l k
  both = λ j. (is-u ∙ ap (λ t. get_or t k (pos 0)) e ∙ filled-behind (sums negative x l) k l (pos 0) k (omega arith)) j +ℤ R.signed negative (is-v j)

  pub row_room : nat_abs (u +ℤ R.signed negative v) < 2 ^ 63
  row_room =
      subst (λ z. nat_abs z < 2 ^ 63) (sym both)
      (omega (arith, nat_abs-add (get_or l k (pos 0)) (R.signed negative (get_or x k (pos 0))), signed-nat_abs negative (get_or x k (pos 0)), S.within k lt, S.within_to k lt, S.room))

  pub row_turn : {r : ℤ} → r ≡ u +ℤ R.signed negative v → set m k r ≡ filled (sums negative x l) (k + 1) l
  row_turn h = filled-turn (sums negative x l) k l e (h ∙ both) (omega (arith, S.long_to))

-- ---- a rotation: d numbers of x from place d − s on, with a sign

signed_not : (b : Bool) (y : ℤ) → R.signed (not b) (neg_ℤ y) ≡ R.signed b y
unfolding R.signed
signed_not true y = refl
signed_not false y = neg_ℤ-neg_ℤ y

module _ (d : ℕ) (p : 0 < d) (x l : List ℤ) (M : Mirrored d (drop d x) x) (S : Summable d (drop d x) l) (long : 2 * d ≤ length x)
    (e s : ℕ) (le : e < 2 * d) (part : s ≤ d) (row : SecondRow d e s) where
  abbrev window : List ℤ
  window = take (length x - (d - s)) (drop (d - s) x)

  window_at : (k : ℕ) → k < d → R.signed (not (ltb e d)) (get_or window k (pos 0)) ≡ rotate d e (signed (drop d x)) k
  unfolding signed
  window_at k h = ap (R.signed (not (ltb e d))) (tail_at (d - s) x k (pos 0)) ∙ elim (dec_lt k s) [
    | yes b ↦
        ap (R.signed (not (ltb e d))) (M.front (d - s + k) (omega arith))
        ∙ signed_not (ltb e d) (get_or (drop d x) (d - s + k) (pos 0))
        ∙ front-turn d e s le row (signed (drop d x)) k b
    | no b ↦
        let is-k : s + (k - s) ≡ k = omega arith in
        ap (λ n. R.signed (not (ltb e d)) (get_or x n (pos 0))) {y = d + (k - s)} (omega arith)
        ∙ ap (R.signed (not (ltb e d))) (M.back (k - s) (omega arith))
        ∙ back_turn d e s le row (signed (drop d x)) (k - s) (omega arith)
        ∙ ap (rotate d e (signed (drop d x))) is-k
  ]

  pub window_summable : Summable d window l
  window_summable = record {
    long = omega (arith, tail-length (d - s) x);
    long_to = S.long_to;
    bound = S.bound;
    bound_to = S.bound_to;
    within = λ k h. omega (
      arith,
      signed-nat_abs (not (ltb e d)) (get_or window k (pos 0)),
      ap nat_abs (window_at k h),
      rotate-bounded d p S.bound e (signed (drop d x)) (unfold signed in S.within) k h,
    );
    within_to = S.within_to;
    room = S.room;
  }

  pub window-rotated : row_added (not (ltb e d)) d window l ≡ rotated_added d e (drop d x) l
  unfolding row_added rotated_added plus signed
  window-rotated = filled_ext _ _ d l (λ k h. ap (λ z. get_or l k (pos 0) +ℤ z) (window_at k h))

-- ---- an element as x holds it

module _ (d : ℕ) (a x : List ℤ) (M : Mirrored d a x) where
  pub half_at : (k : ℕ) → k < d → get_or (drop d x) k (pos 0) ≡ get_or a k (pos 0)
  half_at k h = get_or-drop d x k (pos 0) ∙ M.back k h

  pub half-mirrored : Mirrored d (drop d x) x
  half-mirrored = record {
    front = λ k h. M.front k h ∙ ap neg_ℤ (sym (half_at k h));
    back = λ k h. M.back k h ∙ sym (half_at k h);
  }

-- its own rotation
module _ (d : ℕ) (p : 0 < d) (a : List ℤ) (S : Summable d a a) (x : List ℤ) (long : 2 * d ≤ length x) where
  pub own_mirrorable : Mirrorable d a x
  own_mirrorable = record { long = S.long; long_to = long; within = λ k h. omega (arith, S.within k h, S.room) }

  module _ (M : Mirrored d a x) where
    pub own_summable : Summable d (drop d x) a
    own_summable = record {
      long = omega (arith, length-drop d x);
      long_to = S.long_to;
      bound = S.bound;
      bound_to = S.bound_to;
      within = λ k h. subst (λ z. nat_abs z ≤ S.bound) (sym (half_at d a x M k h)) (S.within k h);
      within_to = S.within_to;
      room = S.room;
    }

    pub own-rotated : (e : ℕ) → rotated_added d e (drop d x) a ≡ rotated_added d e a a
    unfolding rotated_added plus signed
    own-rotated e = filled_ext _ _ d a (λ k h i. get_or a k (pos 0) +ℤ rotate_same p e (half_at d a x M) k i)
