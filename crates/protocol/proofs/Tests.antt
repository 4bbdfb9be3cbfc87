-- Tests and what they say: conjunctions and disjunctions, `every`, `all`, `least`, and refusals.
use mathlib.Core.Path.{◌≡◌, refl, sym, ap, subst, ◌∙◌}
use mathlib.Core.Logic.{◌≢◌, ◌⊎◌, inl, inr}
use mathlib.Core.Bool.{Bool, true, false, ◌&&◌, ◌||◌, false≢true}
use mathlib.Core.List.{List, [], ◌∷◌, map}
use Prim.Native.Nat.{ℕ, zero, suc, ◌<◌, ◌≤◌}
use native.Mathlib.Decide.{ℕ_discrete, dec_lt}
use native.Mathlib.Omega.{arith}
use lib.ListN.{length, get_or, replicate}
use Rattle.protocol.specs.Basic.{every, all, least, first, unless, granted}

-- ---- conjunctions and disjunctions

pub and_split : {a b : Bool} → (a && b) ≡ true → (a ≡ true) × (b ≡ true)
and_split {a = true} {b} t = (refl, t)
and_split {a = false} {b} t = absurd (false≢true t)

pub and_intro : {a b : Bool} → a ≡ true → b ≡ true → (a && b) ≡ true
and_intro {a = true} {b} s t = t
and_intro {a = false} {b} s t = s

pub or_split : {a b : Bool} → (a || b) ≡ true → (a ≡ true) ⊎ (b ≡ true)
or_split {a = true} {b} t = inl refl
or_split {a = false} {b} t = inr t

pub or_left : (a b : Bool) → a ≡ true → (a || b) ≡ true
or_left true b t = refl
or_left false b t = absurd (false≢true t)

pub or_right : (a b : Bool) → b ≡ true → (a || b) ≡ true
or_right true b t = refl
or_right false b t = t

-- two tests that pass together are one test
pub same_test : {a b : Bool} → (a ≡ true → b ≡ true) → (b ≡ true → a ≡ true) → a ≡ b
same_test {a = true} {b} f g = sym (f refl)
same_test {a = false} {b = true} f g = g refl
same_test {a = false} {b = false} f g = refl

-- ---- every

pub every_at : (n : ℕ) (f : ℕ → Bool) → every n f ≡ true → (i : ℕ) → i < n → f i ≡ true
unfolding every
every_at zero f t i h = absurd (omega arith)
every_at (suc n) f t i h = elim (ℕ_discrete i n) [
  | yes e ↦ subst (λ j. f j ≡ true) (sym e) (and_split {a = every n f} {b = f n} t).1
  | no ne ↦ every_at n f (and_split {a = every n f} {b = f n} t).0 i (omega arith)
]

pub every-intro : {n : ℕ} {f : ℕ → Bool} → ((i : ℕ) → i < n → f i ≡ true) → every n f ≡ true
unfolding every
every-intro {n = zero} {f} h = refl
every-intro {n = suc n} {f} h = and_intro {a = every n f} {b = f n} (every-intro {n = n} {f = f} (λ i l. h i (omega arith))) (h n (omega arith))

-- the order of two counts does not matter
pub every_swap : (n m : ℕ) (f : ℕ → ℕ → Bool) → every n (λ i. every m (f i)) ≡ every m (λ j. every n (λ i. f i j))
every_swap n m f = same_test
    (λ t. every-intro (λ j h. every-intro (λ i l. every_at m (f i) (every_at n (λ i. every m (f i)) t i l) j h)))
    (λ t. every-intro (λ i l. every-intro (λ j h. every_at n (λ i. f i j) (every_at m (λ j. every n (λ i. f i j)) t j h) i l)))

-- ---- all

pub all_at {ℓ} : {A : Type ℓ} (f : A → Bool) (l : List A) (z : A) → all f l ≡ true → (i : ℕ) → i < length l → f (get_or l i z) ≡ true
unfolding all
all_at f [] z t i h = absurd (omega arith)
all_at f (x ∷ l) z t zero h = (and_split {a = f x} {b = all f l} t).0
all_at f (x ∷ l) z t (suc i) h = all_at f l z (and_split {a = f x} {b = all f l} t).1 i (omega arith)

pub all_intro {ℓ} : {A : Type ℓ} (f : A → Bool) (l : List A) (z : A) → ((i : ℕ) → i < length l → f (get_or l i z) ≡ true) → all f l ≡ true
unfolding all
all_intro f [] z h = refl
all_intro f (x ∷ l) z h = and_intro {a = f x} {b = all f l} (h 0 (omega arith)) (all_intro f l z (λ i m. h (suc i) (omega arith)))

pub all_weaken {ℓ} : {A : Type ℓ} (f g : A → Bool) → ((x : A) → f x ≡ true → g x ≡ true) → (l : List A) → all f l ≡ true → all g l ≡ true
unfolding all
all_weaken f g w [] h = refl
all_weaken f g w (x ∷ l) h = let (a, b) = and_split {a = f x} {b = all f l} h in and_intro {a = g x} {b = all g l} (w x a) (all_weaken f g w l b)

pub all_replicate {ℓ} : {A : Type ℓ} (f : A → Bool) (n : ℕ) (a : A) → f a ≡ true → all f (replicate n a) ≡ true
unfolding all
all_replicate f zero a h = refl
all_replicate f (suc n) a h = and_intro h (all_replicate f n a h)

pub all_map {ℓ₁ ℓ₂} : {A : Type ℓ₁} {B : Type ℓ₂} (f : B → Bool) (g : A → B) (l : List A) → all f (map g l) ≡ all (λ x. f (g x)) l
unfolding all
all_map f g [] = refl
all_map f g (x ∷ l) = ap (λ (b : Bool). f (g x) && b) (all_map f g l)

pub all_get_d {ℓ} : {A : Type ℓ} (f : A → Bool) (l : List A) (i : ℕ) (d : A) → f d ≡ true → all f l ≡ true → f (get_or l i d) ≡ true
unfolding all
all_get_d f [] zero d h k = h
all_get_d f [] (suc i) d h k = h
all_get_d f (x ∷ l) zero d h k = (and_split {a = f x} {b = all f l} k).0
all_get_d f (x ∷ l) (suc i) d h k = all_get_d f l i d h (and_split {a = f x} {b = all f l} k).1

-- ---- least

-- m is the first place below n at which f holds, or n
pub record First (n : ℕ) (f : ℕ → Bool) (m : ℕ) : Type 0 where
  pub at_most : m ≤ n
  pub holds : m < n → f m ≡ true
  pub none_before : (i : ℕ) → i < m → f i ≡ false

later : (n : ℕ) (f : ℕ → Bool) (m : ℕ) → First n (λ i. f (suc i)) m → (b : Bool) → f 0 ≡ b → First (suc n) f (elim b as (λ _. ℕ) [ true ↦ 0 | false ↦ suc m ])
later n f m F true e = record { at_most = omega arith; holds = λ h. e; none_before = λ i h. absurd (omega arith) }
later n f m F false e = record { at_most = omega (arith, F.at_most); holds = λ h. F.holds (omega arith); none_before = before }
  where
    before : (i : ℕ) → i < suc m → f i ≡ false
    before zero h = e
    before (suc i) h = F.none_before i (omega arith)

pub least_first : (n : ℕ) (f : ℕ → Bool) → First n f (least n f)
unfolding least
least_first zero f = record { at_most = omega arith; holds = λ h. absurd (omega arith); none_before = λ i h. absurd (omega arith) }
least_first (suc n) f = later n f (least n (λ i. f (suc i))) (least_first n (λ i. f (suc i))) (f 0) refl

-- there is one such place
pub least_is : (n : ℕ) (f : ℕ → Bool) (m : ℕ) → First n f m → least n f ≡ m
least_is n f m F = elim (dec_lt m (least n f)) [
  | yes l ↦ absurd (false≢true (sym ((least_first n f).none_before m l) ∙ F.holds (omega (arith, (least_first n f).at_most))))
  | no g ↦ elim (dec_lt (least n f) m) [
    | yes l ↦ absurd (false≢true (sym (F.none_before (least n f) l) ∙ (least_first n f).holds (omega (arith, F.at_most))))
    | no k ↦ omega arith
  ]
]

-- ---- refusals

-- nothing is refused where the first test passes and the rest refuse nothing; and the other way round
pub first_nothing : first [] ≡ 0
unfolding first
first_nothing = refl

pub first_zero : (x : ℕ) (rest : List ℕ) → first (x ∷ rest) ≡ 0 → (x ≡ 0) × (first rest ≡ 0)
unfolding first
first_zero zero rest e = (refl, e)
first_zero (suc n) rest e = absurd (omega arith)

pub zero_first : (x : ℕ) (rest : List ℕ) → x ≡ 0 → first rest ≡ 0 → first (x ∷ rest) ≡ 0
unfolding first
zero_first zero rest e f = f
zero_first (suc n) rest e f = e

pub unless-zero : (n : ℕ) (b : Bool) → unless (suc n) b ≡ 0 → b ≡ true
unfolding unless
unless-zero n true e = refl
unless-zero n false e = absurd (omega arith)

pub zero-unless : (n : ℕ) (b : Bool) → b ≡ true → unless n b ≡ 0
unfolding unless
zero-unless n true e = refl
zero-unless n false e = absurd (false≢true e)

pub granted-zero {ℓ} : {A : Type ℓ} (n : ℕ) (x y : A) → n ≡ 0 → granted n x y ≡ x
unfolding granted
granted-zero zero x y e = refl
granted-zero (suc n) x y e = absurd (omega arith)

pub granted_refused {ℓ} : {A : Type ℓ} (n : ℕ) (x y : A) → n ≢ 0 → granted n x y ≡ y
unfolding granted
granted_refused zero x y r = absurd (r refl)
granted_refused (suc n) x y r = refl
