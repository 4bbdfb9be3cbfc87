-- A part of a list that is overwritten from its front on.
use Rattle.std.proofs.Common.{◌≡◌, ℕ, ◌+◌, ◌-◌, ◌<◌, ◌≤◌, List, [], ◌∷◌, ◌++◌, length, get_or, take, drop, set, replicate, sym, refl, ap, ◌∙◌, append_assoc, arith, length-append, length-drop, take-append-drop, length-take-le, get_or-drop, get_or-take, drop-drop, take_at, get_or-append-add, ext_get_or, drop_at}
use native.Mathlib.Nat as Nat
use native.Mathlib.Decide.{dec_lt}
use lib.ListN.{get_or-append}
use lib.Seq.{take-append-le, drop-append-le}
use Rattle.protocol.specs.Basic.{tabulate}
use Rattle.protocol.specs.Element.{width, zeros, padded}
use Rattle.protocol.proofs.Reading.{tabulate_length, tabulate_at, tabulate_ext, tabulate_add}
use Rattle.residues.specs.Lists.{spliced}
use Rattle.residues.proofs.Fill.{filled, filled_more, filled_at, filled-behind, filled-length, filled-again, element-done}

set_behind {ℓ} : {A : Type ℓ} (xs ys : List A) (n : ℕ) (a : A) → set (xs ++ ys) (length xs + n) a ≡ xs ++ set ys n a
set_behind [] ys n a = ap (λ m. set ys m a) (Nat.zero-add n)
set_behind (x ∷ xs) ys n a = ap (λ m. set (x ∷ xs ++ ys) m a) (Nat.suc-add (length xs) n) ∙ ap (λ l. x ∷ l) (set_behind xs ys n a)

module _ {ℓ} {A : Type ℓ} where
  pub spliced-none : (f : ℕ → A) (at : ℕ) (l : List A) → l ≡ spliced f at 0 l
  unfolding spliced tabulate
  spliced-none f at l = sym (take-append-drop at l)

  module _ (f : ℕ → A) (at n : ℕ) (l : List A) (inside : at ≤ length l) where
    front : length (take at l) ≡ at
    front = length-take-le at l inside

    pub spliced_more : at + n < length l → set (spliced f at n l) (at + n) (f n) ≡ spliced f at (n + 1) l
    unfolding spliced filled
    spliced_more h =
        ap (λ m. set (take at l ++ filled f n (drop at l)) (m + n) (f n)) (sym front)
        ∙ set_behind (take at l) (filled f n (drop at l)) n (f n)
        ∙ ap (λ s. take at l ++ s) (filled_more f n (drop at l) (omega (arith, length-drop at l)))

    pub spliced-length : at + n ≤ length l → length (spliced f at n l) ≡ length l
    unfolding spliced filled
    spliced-length h =
        length-append (take at l) (filled f n (drop at l))
        ∙ omega (arith, front, filled-length f n (drop at l) (omega (arith, length-drop at l)), length-drop at l)

    -- entries, z being what is read behind the end of a list
    module _ (z : A) where
      pub entry-before : (j : ℕ) → j < at → get_or (spliced f at n l) j z ≡ get_or l j z
      unfolding spliced
      entry-before j h = get_or-append (take at l) _ z j (omega (arith, front)) ∙ get_or-take at l j z h

      -- entry number m of what stands from place `at` on
      behind : (m : ℕ) → get_or (spliced f at n l) (at + m) z ≡ get_or (filled f n (drop at l)) m z
      unfolding spliced filled
      behind m = ap (λ x. get_or (take at l ++ filled f n (drop at l)) (x + m) z) (sym front) ∙ get_or-append-add (take at l) (filled f n (drop at l)) m z

      pub entry-inside : (m : ℕ) → m < n → get_or (spliced f at n l) (at + m) z ≡ f m
      entry-inside m h = behind m ∙ filled_at f n (drop at l) z m h

      pub entry-behind : (j : ℕ) → at + n ≤ j → get_or (spliced f at n l) j z ≡ get_or l j z
      entry-behind j h =
          ap (λ x. get_or (spliced f at n l) x z) {y = at + (j - at)} (omega arith)
          ∙ behind (j - at)
          ∙ filled-behind f n (drop at l) z (j - at) (omega arith)
          ∙ get_or-drop at l (j - at) z
          ∙ ap (λ x. get_or l x z) (omega arith)

  -- a turn of a loop that writes one entry after the other, its end, and other names for what is written
  pub spliced-turn : (f : ℕ → A) (at k : ℕ) (l : List A) {s : List A} {v : A} → s ≡ spliced f at k l → v ≡ f k → at + k < length l → set s (at + k) v ≡ spliced f at (k + 1) l
  spliced-turn f at k l e w h = (λ i. set (e i) (at + k) (w i)) ∙ spliced_more f at k l (omega arith) h

  pub spliced-end : (f : ℕ → A) (at : ℕ) (l : List A) {k n : ℕ} {s : List A} → s ≡ spliced f at k l → k ≡ n → s ≡ spliced f at n l
  spliced-end f at l e h = e ∙ ap (λ m. spliced f at m l) h

  pub spliced_ext : (f g : ℕ → A) (at n : ℕ) (l : List A) → ((k : ℕ) → k < n → f k ≡ g k) → spliced f at n l ≡ spliced g at n l
  unfolding spliced
  spliced_ext f g at n l e = ap (λ s. take at l ++ (s ++ drop n (drop at l))) (tabulate_ext n e)

  -- a front that is overwritten twice
  pub spliced-again : (f g : ℕ → A) (n : ℕ) (l : List A) → spliced g 0 n (spliced f 0 n l) ≡ spliced g 0 n l
  unfolding spliced filled
  spliced-again f g n l = filled-again f g n l

  -- a part that is overwritten twice
  pub spliced-over : (f g : ℕ → A) (at n : ℕ) (l : List A) → at ≤ length l → spliced g at n (spliced f at n l) ≡ spliced g at n l
  unfolding spliced filled
  spliced-over f g at n l h =
      (λ i. take_at (take at l) (filled f n (drop at l)) at (length-take-le at l h) i ++ filled g n (drop_at (take at l) (filled f n (drop at l)) at (length-take-le at l h) i))
      ∙ ap (λ x. take at l ++ x) (filled-again f g n (drop at l))

  -- the front of a list, lent and handed back
  pub spliced-append : (f : ℕ → A) (at n : ℕ) (xs ys : List A) → at + n ≤ length xs → spliced f at n xs ++ ys ≡ spliced f at n (xs ++ ys)
  unfolding spliced
  spliced-append f at n xs ys h =
      append_assoc (take at xs) (tabulate n f ++ drop n (drop at xs)) ys
      ∙ ap (λ l. take at xs ++ l) (append_assoc (tabulate n f) (drop n (drop at xs)) ys)
      ∙ sym (λ i. take-append-le at xs ys (omega arith) i ++ (tabulate n f ++ rest i))
    where
      rest : drop n (drop at (xs ++ ys)) ≡ drop n (drop at xs) ++ ys
      rest = ap (drop n) (drop-append-le at xs ys (omega arith)) ∙ drop-append-le n (drop at xs) ys (omega (arith, length-drop at xs))

  -- two splices in a row, the second where the first ends
  module _ (f g : ℕ → A) (at n m : ℕ) (l : List A) (h : at + n + m ≤ length l) (e : (k : ℕ) → k < m → g k ≡ f (n + k)) where
    head : List A
    head = take at l ++ tabulate n f

    head-length : length head ≡ at + n
    unfolding head
    head-length = length-append (take at l) (tabulate n f) ∙ omega (arith, length-take-le at l (omega arith), tabulate_length n f)

    split : spliced f at n l ≡ head ++ drop n (drop at l)
    unfolding spliced head
    split = sym (append_assoc (take at l) (tabulate n f) (drop n (drop at l)))

    both : tabulate n f ++ tabulate m g ≡ tabulate (n + m) f
    both = ap (λ t. tabulate n f ++ t) (tabulate_ext m e) ∙ sym (tabulate_add n m f)

    pub spliced-twice : spliced g (at + n) m (spliced f at n l) ≡ spliced f at (n + m) l
    unfolding spliced
    spliced-twice =
        (λ i. take (at + n) (split i) ++ (tabulate m g ++ drop m (drop (at + n) (split i))))
        ∙ (λ i. take_at head (drop n (drop at l)) (at + n) head-length i ++ (tabulate m g ++ drop m (drop_at head (drop n (drop at l)) (at + n) head-length i)))
        ∙ unfold head in append_assoc (take at l) (tabulate n f) _
        ∙ ap (λ t. take at l ++ t) (sym (append_assoc (tabulate n f) (tabulate m g) _) ∙ (λ i. both i ++ drop-drop m n (drop at l) i))

  -- a list that is known entry by entry
  pub spliced-known : (z : A) (f : ℕ → A) (at n : ℕ) (l s : List A) → at + n ≤ length l → length s ≡ length l
      → ((j : ℕ) → j < at → get_or s j z ≡ get_or l j z) → ((m : ℕ) → m < n → get_or s (at + m) z ≡ f m) → ((j : ℕ) → at + n ≤ j → get_or s j z ≡ get_or l j z) → s ≡ spliced f at n l
  spliced-known z f at n l s h long front inside behind =
      ext_get_or z s (spliced f at n l) (long ∙ sym (spliced-length f at n l (omega arith) h)) (λ j _. elim (dec_lt j at) [
        | yes before ↦ front j before ∙ sym (entry-before f at n l (omega arith) z j before)
        | no after ↦ elim (dec_lt j (at + n)) [
          | yes within ↦
              ap (λ x. get_or s x z) {y = at + (j - at)} (omega arith)
              ∙ inside (j - at) (omega arith)
              ∙ sym (ap (λ x. get_or (spliced f at n l) x z) {y = at + (j - at)} (omega arith) ∙ entry-inside f at n l (omega arith) z (j - at) (omega arith))
          | no past ↦ behind j (omega arith) ∙ sym (entry-behind f at n l (omega arith) z j (omega arith))
        ]
      ])

  -- a part that is copied: the first n entries of a row
  pub copied : (z : A) (n at : ℕ) (row l : List A) {s : List A} {m : ℕ} → n ≤ length row → s ≡ take n row → m ≡ n
      → take at l ++ (s ++ drop m (drop at l)) ≡ spliced (λ k. get_or row k z) at n l
  unfolding spliced
  copied z n at row l there e h = (λ i. take at l ++ (e i ++ drop (h i) (drop at l))) ∙ ap (λ t. take at l ++ (t ++ drop n (drop at l))) front
    where
      long : length (take n row) ≡ n
      long = length-take-le n row there

      front : take n row ≡ tabulate n (λ k. get_or row k z)
      front = ext_get_or z (take n row) _ (long ∙ sym (tabulate_length n _))
          (λ k h. get_or-take n row k z (omega (arith, long)) ∙ sym (tabulate_at n _ z k (omega (arith, long))))

-- ---- of numbers: 0 is read behind the end

module _ (f : ℕ → ℕ) (at n : ℕ) (l : List ℕ) (inside : at ≤ length l) where
  pub spliced-before : (j : ℕ) → j < at → get_or (spliced f at n l) j 0 ≡ get_or l j 0
  spliced-before = entry-before f at n l inside 0

  pub spliced-inside : (m : ℕ) → m < n → get_or (spliced f at n l) (at + m) 0 ≡ f m
  spliced-inside = entry-inside f at n l inside 0

  pub spliced-behind : (j : ℕ) → at + n ≤ j → get_or (spliced f at n l) j 0 ≡ get_or l j 0
  spliced-behind = entry-behind f at n l inside 0

-- what is written as it was
pub spliced_same : (at n : ℕ) (l : List ℕ) → at + n ≤ length l → l ≡ spliced (λ k. get_or l (at + k) 0) at n l
spliced_same at n l h = spliced-known 0 (λ k. get_or l (at + k) 0) at n l l h refl (λ j _. refl) (λ m _. refl) (λ j _. refl)

-- over zeros; in particular an element that is passed by value
spliced-zeros : (f : ℕ → ℕ) (n d : ℕ) → spliced f 0 d (replicate n 0) ≡ filled f d (zeros n)
unfolding spliced filled zeros
spliced-zeros f n d = refl

pub spliced-element : (f g : ℕ → ℕ) (d : ℕ) → ((k : ℕ) → k < d → f k ≡ g k) → spliced f 0 d (replicate width 0) ≡ padded d (tabulate d g)
spliced-element f g d e = spliced_ext f g 0 d (replicate width 0) e ∙ element-done g d d (spliced g 0 d (replicate width 0)) (spliced-zeros g width d) refl
