-- Elements by value that stand for slices, and slices that elements are written to.
use mathlib.Core.Path.{◌≡◌, refl, sym, ap, ◌∙◌}
use mathlib.Core.Bool.{Bool, true, false}
use mathlib.Core.List.{List, [], ◌++◌, append-nil, append_assoc}
use Prim.Native.Nat.{ℕ, ◌+◌, ◌*◌, ◌≤◌}
use native.Mathlib.Nat as Nat
use native.Mathlib.Omega.{arith}
use mir.Val.{bool_byte}
use lib.IntN.{ℤ, pos}
use lib.ListN.{length, get_or, take, drop, length-append, length-drop}
use lib.Seq.{take_at, drop_at, drop-length, get_or-take, length-take-le}
use Rattle.protocol.specs.Basic.{tabulate, choose}
use Rattle.protocol.specs.Element.{padded_signed, coefficients, signed_at}
use Rattle.protocol.proofs.Reading.{tabulate_length, tabulate_ext, tabulate_own}
use Rattle.residues.specs.Lists.{filled, spliced}

-- a slice of d numbers is the first element of a table
pub whole_signed : (d : ℕ) (t : List ℤ) → length t ≡ d → padded_signed d (coefficients d (signed_at d t 0)) ≡ padded_signed d t
unfolding coefficients signed_at
whole_signed d t e = ap (padded_signed d) (tabulate_ext d (λ k h. ap (λ n. get_or t (n + k) (pos 0)) (Nat.zero-mul d) ∙ ap (λ n. get_or t n (pos 0)) (Nat.zero-add k)) ∙ tabulate_own d t (pos 0) e)

drop_end {ℓ} : {A : Type ℓ} (n : ℕ) (l : List A) → length l ≡ n → drop n l ≡ []
drop_end n l e = ap (λ k. drop k l) (sym e) ∙ drop-length l

-- the first n places of an element, one by one
pub first_places {ℓ} : {A : Type ℓ} (n : ℕ) (a : List A) (z : A) → n ≤ length a → tabulate n (λ k. get_or a k z) ≡ take n a
first_places n a z h = tabulate_ext n (λ k l. sym (get_or-take n a k z l)) ∙ tabulate_own n (take n a) z (length-take-le n a h)

-- an element that is written over a whole slice
pub filled_whole : (d : ℕ) (a l : List ℤ) → d ≤ length a → length l ≡ d → filled (λ j. get_or a j (pos 0)) d l ≡ take d a
unfolding filled
filled_whole d a l h e = (λ i. first_places d a (pos 0) h i ++ drop_end d l e i) ∙ append-nil _

pub stored_whole {ℓ} : {A : Type ℓ} (n : ℕ) (f : ℕ → A) (l : List A) → length l ≡ n → spliced f 0 n l ≡ tabulate n f
unfolding spliced
stored_whole n f l e = ap (λ t. tabulate n f ++ t) (drop_end n l e) ∙ append-nil _

-- three elements that are written one after the other
module _ (d : ℕ) (f g h : ℕ → ℕ) (l : List ℕ) (e : length l ≡ 3 * d) where
  X : List ℕ
  X = tabulate d f

  Y : List ℕ
  Y = tabulate d g

  Z : List ℕ
  Z = tabulate d h

  R : List ℕ
  R = drop d (drop d l)

  second : spliced g d d (spliced f 0 d l) ≡ (X ++ Y) ++ R
  unfolding spliced X Y R
  second =
      (λ i. take_at X (drop d l) d (tabulate_length d f) i ++ (Y ++ drop d (drop_at X (drop d l) d (tabulate_length d f) i)))
      ∙ sym (append_assoc X Y R)

  both : length (X ++ Y) ≡ 2 * d
  unfolding X Y
  both = length-append X Y ∙ omega (arith, tabulate_length d f, tabulate_length d g)

  rest : length R ≡ d
  unfolding R
  rest = omega (arith, length-drop d (drop d l), length-drop d l)

  pub stored-three : spliced h (2 * d) d (spliced g d d (spliced f 0 d l)) ≡ tabulate d f ++ (tabulate d g ++ tabulate d h)
  stored-three = ap (spliced h (2 * d) d) second ∙ third
    where
      third : spliced h (2 * d) d ((X ++ Y) ++ R) ≡ tabulate d f ++ (tabulate d g ++ tabulate d h)
      third = unfold spliced in unfold X in unfold Y in
          (λ i. take_at (X ++ Y) R (2 * d) both i ++ (tabulate d h ++ drop d (drop_at (X ++ Y) R (2 * d) both i)))
          ∙ ap (λ t. (X ++ Y) ++ (tabulate d h ++ t)) (drop_end d R rest)
          ∙ ap (λ t. (X ++ Y) ++ t) (append-nil (tabulate d h))
          ∙ append_assoc X Y (tabulate d h)

-- a test as a number
pub as_number : (b : Bool) → bool_byte b ≡ choose b 1 0
unfolding choose
as_number true = refl
as_number false = refl
