-- Two halves of a list that are lent one after the other and come back, and bounds on their numbers.
use Rattle.std.proofs.Common.{◌≡◌, ℕ, ◌+◌, ◌-◌, ◌<◌, ◌≤◌, List, [], ◌∷◌, ◌++◌, length, get_or, take, drop, sym, refl, ap, ◌∙◌, subst, ap₂, arith, length-append, length-take-le, get_or-drop, take_all, get_or-take, take_at, get_or-append-add, drop_at}
use native.Mathlib.Nat as NatL
use native.Mathlib.Decide.{dec_lt}
use lib.ListN.{get_or-append, get_or-eq_default}
use lib.Seq.{drop-length}
use borrow.Rule.Slice.PartMut.{put_mid}
use Rattle.powers.specs.Powers.{Below}

append-none : (l : List ℕ) → l ++ [] ≡ l
append-none [] = refl
append-none (x ∷ l) = ap (λ t. x ∷ t) (append-none l)

-- p stands for the first h numbers of m
module _ (h : ℕ) (m p : List ℕ) (long : length p ≡ h) where
  left : length (p ++ drop h m) - h ≡ length (drop h m)
  left = omega (arith, length-append p (drop h m), long)

  pub second_part : take (length (p ++ drop h m) - h) (drop h (p ++ drop h m)) ≡ drop h m
  second_part = ap₂ take left (drop_at p (drop h m) h long) ∙ take_all _ (drop h m) (NatL.le_refl _)

  pub second_back : (q : List ℕ) → put_mid h (length (p ++ drop h m) - h) (p ++ drop h m) q ≡ p ++ q
  second_back q = ap₂ ◌++◌ (take_at p (drop h m) h long) (ap (λ t. q ++ t) (ap₂ drop left (drop_at p (drop h m) h long) ∙ drop-length (drop h m)) ∙ append-none q)

  pub second_long : (q : List ℕ) → length q ≡ length (take (length (p ++ drop h m) - h) (drop h (p ++ drop h m)))
      → length (put_mid h (length (p ++ drop h m) - h) (p ++ drop h m) q) ≡ h + length (drop h m)
  second_long q e = ap length (second_back q) ∙ length-append p q ∙ ap₂ ◌+◌ long (e ∙ ap length second_part)

-- the two halves side by side
module _ (h : ℕ) (p q : List ℕ) (long : length p ≡ h) where
  pub joint_first : (k : ℕ) → k < h → get_or (p ++ q) k 0 ≡ get_or p k 0
  joint_first k b = get_or-append p q 0 k (omega (arith, long))

  pub joint_second : (k : ℕ) → get_or (p ++ q) (h + k) 0 ≡ get_or q k 0
  joint_second k = ap (λ n. get_or (p ++ q) (n + k) 0) (sym long) ∙ get_or-append-add p q k 0

-- what holds of the places below h and of those from h on
pub by_halves : (P : ℕ → Type 0) (h : ℕ) → ((k : ℕ) → k < h → P k) → ((k : ℕ) → P (h + k)) → (k : ℕ) → P k
by_halves P h low high k = elim (dec_lt k h) [ yes b ↦ low k b | no b ↦ subst P {x = h + (k - h)} (omega arith) (high (k - h)) ]

pub below-take : (h b : ℕ) (l : List ℕ) → h ≤ length l → 0 < b → Below b l → Below b (take h l)
below-take h b l s z e = by_halves (λ k. get_or (take h l) k 0 < b) h (λ k y. subst (λ n. n < b) (sym (get_or-take h l k 0 y)) (e k))
    (λ k. subst (λ n. n < b) (sym (get_or-eq_default (take h l) 0 (omega (arith, length-take-le h l s)))) z)

pub below-drop : (h b : ℕ) (l : List ℕ) → Below b l → Below b (drop h l)
below-drop h b l e k = subst (λ n. n < b) (sym (get_or-drop h l k 0)) (e (h + k))

pub below-append : (b : ℕ) (p q : List ℕ) → Below b p → Below b q → Below b (p ++ q)
below-append b p q e f = by_halves (λ k. get_or (p ++ q) k 0 < b) (length p) (λ k y. subst (λ n. n < b) (sym (joint_first (length p) p q refl k y)) (e k))
    (λ k. subst (λ n. n < b) (sym (joint_second (length p) p q refl k)) (f k))
