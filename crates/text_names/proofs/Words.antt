-- Bytes as one number, and what a text begins with.
--
--   word-cons      two words are equal exactly when their first bytes are and what the others make
--   take_places    the first n of a list, place by place
--   begins-word    a text begins with bytes exactly when its word of so many bytes is theirs, for any number of bytes
--   begins-parts   bytes in two parts are looked for one part after the other
--   begins-short   a shorter text does not begin with them
--   begins-every   a text that is long enough begins with bytes exactly when each of them stands at its place
use mathlib.Core.Path.{◌≡◌, refl, sym, ap, ◌∙◌}
use mathlib.Core.Bool.{Bool, true, false, ◌&&◌, and_assoc, and-false, false≢true}
use mathlib.Core.List.{List, [], ◌∷◌, ◌++◌}
use Prim.Native.Nat.{ℕ, zero, suc, ◌+◌, ◌*◌, ◌≤◌, ◌<◌}
use native.Mathlib.Omega.{arith}
use borrow.Author.Tests.{eq-eqb, ne_eqb, eqb-true, eqb-false}
use lib.Dec.{eqb}
use lib.ListN.{length, get_or, take, drop}
use Rattle.protocol.specs.Basic.{every, tabulate}
use Rattle.protocol.proofs.Tests.{same_test, every_at, every-intro, and_intro, and_split}
use Rattle.text_format.specs.Text.{begins}
use Rattle.text_names.specs.Words.{word}

-- every number of a list is a byte
abbrev pub Bytes : List ℕ → Type 0
Bytes [] = Unit
Bytes (b ∷ bs) = (b < 256) × Bytes bs

module _ (b c x y : ℕ) (hb : b < 256) (hc : c < 256) where
  first_same : b + 256 * x ≡ c + 256 * y → b ≡ c
  first_same w = omega (arith, w, hb, hc)

  others_same : b + 256 * x ≡ c + 256 * y → x ≡ y
  others_same w = omega (arith, w, hb, hc)

  by_tests : (s t : Bool) → eqb b c ≡ s → eqb x y ≡ t → eqb (b + 256 * x) (c + 256 * y) ≡ (s && t)
  by_tests true true e f = eq-eqb (b + 256 * x) (c + 256 * y) (omega (arith, eqb-true b c e, eqb-true x y f))
  by_tests true false e f = ne_eqb (b + 256 * x) (c + 256 * y) (λ w. eqb-false x y f (others_same w))
  by_tests false t e f = ne_eqb (b + 256 * x) (c + 256 * y) (λ w. eqb-false b c e (first_same w))

  pub word-cons : eqb (b + 256 * x) (c + 256 * y) ≡ (eqb b c && eqb x y)
  word-cons = by_tests (eqb b c) (eqb x y) refl refl

pub take_places : (n : ℕ) (l : List ℕ) → n ≤ length l → take n l ≡ tabulate n (λ i. get_or l i 0)
unfolding tabulate
take_places zero l h = refl
take_places (suc n) [] h = absurd (omega (arith, h))
take_places (suc n) (a ∷ l) h = ap (λ (t : List ℕ). a ∷ t) (take_places n l (omega (arith, h)))

pub begins-word : (cs text : List ℕ) → length cs ≤ length text → Bytes cs → ((i : ℕ) → get_or text i 0 < 256)
    → begins cs text ≡ eqb (word (take (length cs) text)) (word cs)
unfolding begins
begins-word [] text l hc ht = refl
begins-word (c ∷ cs) [] l hc ht = absurd (omega (arith, l))
begins-word (c ∷ cs) (b ∷ bs) l hc ht =
    ap (λ t. eqb b c && t) (begins-word cs bs (omega (arith, l)) hc.1 (λ i. ht (suc i)))
    ∙ sym (word-cons b c (word (take (length cs) bs)) (word cs) (ht 0) hc.0)

pub begins-parts : (cs ds text : List ℕ) → begins (cs ++ ds) text ≡ (begins cs text && begins ds (drop (length cs) text))
unfolding begins
begins-parts [] ds text = refl
begins-parts (c ∷ cs) ds [] = refl
begins-parts (c ∷ cs) ds (b ∷ bs) = ap (λ t. eqb b c && t) (begins-parts cs ds bs) ∙ sym (and_assoc (eqb b c) _ _)

pub begins-short : (cs text : List ℕ) → length text < length cs → begins cs text ≡ false
unfolding begins
begins-short [] text l = absurd (omega (arith, l))
begins-short (c ∷ cs) [] l = refl
begins-short (c ∷ cs) (b ∷ bs) l = ap (λ t. eqb b c && t) (begins-short cs bs (omega (arith, l))) ∙ and-false (eqb b c)

begins-intro : (cs text : List ℕ) → length cs ≤ length text → ((i : ℕ) → i < length cs → get_or text i 0 ≡ get_or cs i 0) → begins cs text ≡ true
unfolding begins
begins-intro [] text l same = refl
begins-intro (c ∷ cs) [] l same = absurd (omega (arith, l))
begins-intro (c ∷ cs) (b ∷ bs) l same =
    and_intro {a = eqb b c} {b = begins cs bs} (eq-eqb b c (same 0 (omega arith))) (begins-intro cs bs (omega (arith, l)) (λ i h. same (suc i) (omega (arith, h))))

begins_at : (cs text : List ℕ) → begins cs text ≡ true → (i : ℕ) → i < length cs → get_or text i 0 ≡ get_or cs i 0
unfolding begins
begins_at [] text t i h = absurd (omega (arith, h))
begins_at (c ∷ cs) [] t i h = absurd (false≢true t)
begins_at (c ∷ cs) (b ∷ bs) t zero h = eqb-true b c (and_split {a = eqb b c} {b = begins cs bs} t).0
begins_at (c ∷ cs) (b ∷ bs) t (suc i) h = begins_at cs bs (and_split {a = eqb b c} {b = begins cs bs} t).1 i (omega (arith, h))

pub begins-every : (cs text : List ℕ) → length cs ≤ length text → every (length cs) (λ i. eqb (get_or text i 0) (get_or cs i 0)) ≡ begins cs text
begins-every cs text l = same_test
    (λ t. begins-intro cs text l (λ i h. eqb-true _ _ (every_at _ _ t i h)))
    (λ t. every-intro (λ i h. eq-eqb _ _ (begins_at cs text t i h)))
