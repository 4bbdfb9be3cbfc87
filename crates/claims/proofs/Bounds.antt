-- How large a message's coefficients become: a fold at most doubles them, so after t folds what is left lies within 2^t·B, and the final element within n·B.
use mathlib.Core.Path.{◌≡◌, refl, sym, ap, ◌∙◌, subst}
use mathlib.Core.List.{List}
use Prim.Native.Nat.{ℕ, zero, suc, ◌+◌, ◌*◌, ◌-◌, ◌/◌, ◌%◌, ◌^◌, ◌<◌, ◌≤◌}
use native.Mathlib.Nat as Nat
use native.Mathlib.Omega.{arith}
use lib.ListN.{get_or, take}
use lib.Seq.{length-take-le, get_or-take}
use lib.Pow as Pow
use lib.IntN.{ℤ, pos, nat_abs}
use Rattle.algebra.specs.Magnitude.{nat_abs-neg, nat_abs-add}
use Rattle.protocol.specs.declared.Settings.{Settings}
use Rattle.protocol.specs.Element.{Element, flips, around, rotate, plus, signed_at}
use Rattle.protocol.specs.Settings.{size, cells}
use Rattle.protocol.specs.Opening.{left, half_left, message_after}
use Rattle.protocol.specs.Inputs.{Within}
use Rattle.protocol.proofs.Reading.{cell-inside}
use Rattle.protocol.proofs.OpeningLaws.{folded, signed-fold, message-suc, message-length, left_inside, left_power, half_left-power, twice_power}

-- the places of an element below d lie within B
abbrev pub Bounded : ℕ → ℕ → Element → Type 0
Bounded d B a = (k : ℕ) → k < d → nat_abs (a k) ≤ B

flips-magnitude : (n : ℕ) (z : ℤ) → nat_abs (flips n z) ≡ nat_abs z
unfolding flips
flips-magnitude zero z = refl
flips-magnitude (suc n) z = nat_abs-neg (flips n z) ∙ flips-magnitude n z

module _ (d : ℕ) (p : 0 < d) where
  pub rotate-bounded : (B e : ℕ) (a : Element) → Bounded d B a → Bounded d B (rotate d e a)
  unfolding rotate around
  rotate-bounded B e a w k l = subst (λ n. n ≤ B) (sym (flips-magnitude (x / d) (a (x % d)))) (w (x % d) (Nat.mod-lt x p))
    where
      x : ℕ
      x = k + (2 * d - e % (2 * d))

  pub plus-bounded : (A B : ℕ) (a b : Element) → Bounded d A a → Bounded d B b → Bounded d (A + B) (plus a b)
  unfolding plus
  plus-bounded A B a b wa wb k l = omega (arith, nat_abs-add (a k) (b k), wa k l, wb k l)

  folded-bounded : (h e B : ℕ) (m : ℕ → Element) (i : ℕ) → Bounded d B (m i) → Bounded d B (m (h + i)) → Bounded d (B + B) (folded d h e m i)
  unfolding folded
  folded-bounded h e B m i w v = plus-bounded B B (m i) (rotate d e (m (h + i))) w (rotate-bounded B e (m (h + i)) v)

module _ (S : Settings) (p : 0 < S.degree) (E : List ℕ) (message : List ℤ) (small : (j : ℕ) → j < cells S → nat_abs (get_or message j (pos 0)) ≤ S.bound) where
  open S use {degree as d, depth as L, bound as B}

  abbrev m : ℕ → ℕ → Element
  m t = signed_at d (message_after S E t message)

  -- one fold more
  fold_step : (t b : ℕ) → t < L → ((i : ℕ) → i < 2 ^ (L - t) → Bounded d b (m t i)) → (i : ℕ) → i < 2 ^ (L - suc t) → Bounded d (b + b) (m (suc t) i)
  fold_step t b l w i h k lk =
      subst (λ z. nat_abs z ≤ b + b) (sym step)
      (folded-bounded d p (half_left S t) (get_or E t 0) b (m t) i (w i (omega (arith, twice_power L t l))) (w (half_left S t + i) (omega (arith, twice_power L t l, half_left-power S t l))) k lk)
    where
      step : m (suc t) i k ≡ folded d (half_left S t) (get_or E t 0) (m t) i k
      step = ap (λ l. signed_at d l i k) (message-suc S E t message) ∙ signed-fold d (half_left S t) (get_or E t 0) (message_after S E t message) i k (omega (arith, half_left-power S t l)) lk

  pub fold-bound : (t : ℕ) → t ≤ L → (i : ℕ) → i < 2 ^ (L - t) → Bounded d (2 ^ t * B) (m t i)
  unfolding message_after signed_at size cells
  fold-bound zero l i h k lk = omega (arith, small (i * d + k) (cell-inside d (2 ^ L) i k (omega (arith, ap (λ n. 2 ^ n) (Nat.sub-zero L))) lk))
  fold-bound (suc t) l i h k lk =
      subst (λ n. nat_abs (m (suc t) i k) ≤ n) (sym (ap (λ n. n * B) (Nat.two-pow-succ t) ∙ Nat.add-mul (2 ^ t) (2 ^ t) B)) (fold_step t (2 ^ t * B) l (fold-bound t (omega arith)) i h k lk)

  -- of the element that is left at the end
  pub last_bound : Bounded d (size S * B) (m L 0)
  unfolding size
  last_bound = fold-bound L (Nat.le_refl L) 0 (Pow.pow_pos (L - L))

-- the same of a table's numbers (PROTOCOL 2.2)
pub left_within : (S : Settings) → 0 < S.degree → (E : List ℕ) (message : List ℤ) → Within S.bound (cells S) message → (t : ℕ) → t ≤ S.depth
    → Within (2 ^ t * S.bound) (left S t * S.degree) (take (left S t * S.degree) (message_after S E t message))
unfolding signed_at
left_within S p E message w t l = record {
  long = length-take-le (left S t * d) _ (omega (arith, message-length S E t message w.long, left_inside S t));
  each =
      λ j h. subst (λ z. nat_abs z ≤ 2 ^ t * S.bound)
      (ap (λ n. get_or (message_after S E t message) n (pos 0)) (Nat.div-add-mod' j d) ∙ sym (get_or-take (left S t * d) (message_after S E t message) j (pos 0) h))
      (fold-bound S p E message w.each t l (j / d) (subst (λ n. j / d < n) (left_power S t l) ((Nat.div-lt_iff_lt-mul p).1 h)) (j % d) (Nat.mod-lt j p));
}
  where
    d : ℕ
    d = S.degree
