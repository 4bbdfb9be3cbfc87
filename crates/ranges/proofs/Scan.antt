-- Loops that test one entry after the other.
use Rattle.std.proofs.Common.{◌≡◌, ℕ, zero, suc, ◌+◌, ◌<◌, ◌≤◌, Bool, true, false, ◌&&◌, List, [], ◌∷◌, ◌++◌, length, get_or, take, drop, sym, refl, ap, ◌∙◌, ap₂, add-one, arith, drop_of_length-le, drop-cons, take-add}
use Rattle.protocol.specs.Basic.{every, all}
use Rattle.protocol.proofs.Tests.{and_intro, every_at}

-- ---- over a table, in a loop that asks all entries: what is known, and what is left, decide

and_assoc : (a b c : Bool) → (a && (b && c)) ≡ ((a && b) && c)
and_assoc true b c = refl
and_assoc false b c = refl

pub and-true : (a : Bool) → (a && true) ≡ a
and-true true = refl
and-true false = refl

pub and-false : (a : Bool) → (a && false) ≡ false
and-false true = refl
and-false false = refl

-- the first n entries are a table of their own
module _ {ℓ} {A : Type ℓ} (f : A → Bool) where
  all_append : (t u : List A) → all f (t ++ u) ≡ (all f t && all f u)
  unfolding all
  all_append [] u = refl
  all_append (x ∷ t) u = ap (λ b. f x && b) (all_append t u) ∙ and_assoc (f x) (all f t) (all f u)

  pub all_front : (t : List A) (z : A) (n : ℕ) → n ≤ length t → all f (take n t) ≡ every n (λ k. f (get_or t k z))
  unfolding all every
  all_front t z zero h = refl
  all_front t z (suc n) h =
      ap (λ m. all f (take m t)) (sym (add-one n))
      ∙ ap (all f) (take-add n 1 t ∙ ap (λ l. take n t ++ take 1 l) (drop-cons t n z (omega arith)))
      ∙ all_append (take n t) (get_or t n z ∷ [])
      ∙ ap₂ ◌&&◌ (all_front t z n (omega arith)) (and-true (f (get_or t n z)))

module _ {ℓ} {A : Type ℓ} (f : A → Bool) (t : List A) (z : A) (i : ℕ) (good : Bool) (e : all f t ≡ (good && all f (drop i t))) where
  pub asked_goes_on : i < length t → {next : Bool} → next ≡ (good && f (get_or t i z)) → all f t ≡ (next && all f (drop (i + 1) t))
  unfolding all
  asked_goes_on h n =
      e
      ∙ ap (λ l. good && all f l) (drop-cons t i z h)
      ∙ and_assoc good (f (get_or t i z)) (all f (drop (suc i) t))
      ∙ sym (λ j. n j && all f (drop (add-one i j) t))

  pub asked_ends : length t ≤ i → good ≡ all f t
  unfolding all
  asked_ends h = sym (e ∙ ap (λ l. good && all f l) (drop_of_length-le t h) ∙ and-true good)

-- ---- over the places below n: those that are passed hold

pub every-none : (f : ℕ → Bool) → every 0 f ≡ true
unfolding every
every-none f = refl

pub every_goes_on : (f : ℕ → Bool) (k : ℕ) → every k f ≡ true → f k ≡ true → every (k + 1) f ≡ true
unfolding every
every_goes_on f k e p = ap (λ n. every n f) (add-one k) ∙ and_intro {a = every k f} {b = f k} e p

pub every_fails : (f : ℕ → Bool) (n k : ℕ) → k < n → f k ≡ false → false ≡ every n f
every_fails f n k h p = go (every n f) refl
  where
    go : (b : Bool) → every n f ≡ b → false ≡ b
    go true e = sym p ∙ every_at n f e k h
    go false e = refl

pub every_ends : (f : ℕ → Bool) (n k : ℕ) → every k f ≡ true → k ≡ n → true ≡ every n f
every_ends f n k e p = sym e ∙ ap (λ m. every m f) p
