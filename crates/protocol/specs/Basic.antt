-- Tools with no meaning of their own, for the definitions of the protocol.
--
--   sum n f        f 0 + f 1 + … + f (n − 1)
--   every n f      does f hold at 0, 1, …, n − 1
--   least n f      the first place below n at which f holds; n where there is none
--   tabulate n f   the list f 0, f 1, …, f (n − 1)
--   flat d n F     the flat table of n elements of d numbers each, F i k being number k of element i
--   all f l        does every entry of l pass the test f
--   among x l      is x one of the numbers l
--   within b z     is z from −b to b
--   choose b x y   x where the test b passes, else y
--   first l        the first of the numbers l that is not 0; 0 where there is none
--   unless N b     the refusal N where the test b fails, 0 where it passes
--   granted N x y  x where the refusal N is 0, else y
--   Tested x N b r  the refusal is r where it was x before the test b, whose number is N
--   Provided c p   the promise p of a function below the calls, owed where the condition c holds
use Rattle.std.specs.Prelude.{◌≡◌, Bool, true, false, ◌&&◌, ◌||◌, List, [], ◌∷◌, ℕ, zero, suc, ◌*◌, ◌/◌, ◌%◌, leb, eqb, ℤ, pos, ◌+ℤ◌, nat_abs}

unfoldable pub sum : ℕ → (ℕ → ℤ) → ℤ
sum zero f = pos 0
sum (suc n) f = sum n f +ℤ f n

unfoldable pub every : ℕ → (ℕ → Bool) → Bool
every zero f = true
every (suc n) f = every n f && f n

unfoldable pub least : ℕ → (ℕ → Bool) → ℕ
least zero f = 0
least (suc n) f = elim (f 0) [ true ↦ 0 | false ↦ suc (least n (λ i. f (suc i))) ]

-- head and tail are bound by `let`, which the checker computes only when it is asked for: so to read one place of a table does not compute the others
unfoldable pub tabulate {ℓ} : {A : Type ℓ} → ℕ → (ℕ → A) → List A
tabulate zero f = []
tabulate (suc n) f = let x = f 0 in let rest = tabulate n (λ i. f (suc i)) in x ∷ rest

unfoldable pub flat {ℓ} : {A : Type ℓ} → ℕ → ℕ → (ℕ → ℕ → A) → List A
flat d n F = tabulate (n * d) (λ p. F (p / d) (p % d))

unfoldable pub all {ℓ} : {A : Type ℓ} → (A → Bool) → List A → Bool
all f [] = true
all f (x ∷ xs) = f x && all f xs

unfoldable pub among : ℕ → List ℕ → Bool
among x [] = false
among x (y ∷ ys) = eqb x y || among x ys

unfoldable pub within : ℕ → ℤ → Bool
within b z = leb (nat_abs z) b

unfoldable pub choose {ℓ} : {A : Type ℓ} → Bool → A → A → A
choose true x y = x
choose false x y = y

unfoldable pub first : List ℕ → ℕ
first [] = 0
first (zero ∷ rest) = first rest
first (suc n ∷ rest) = suc n

unfoldable pub unless : ℕ → Bool → ℕ
unless number true = 0
unless number false = number

unfoldable pub granted {ℓ} : {A : Type ℓ} → ℕ → A → A → A
granted zero x y = x
granted (suc n) x y = y

-- one test more: what was refused before it stands, and otherwise the test decides
pub record Tested (x number : ℕ) (b : Bool) (r : ℕ) : Type 0 where
  pub is : r ≡ first (x ∷ unless number b ∷ [])

abbrev pub Provided : Type 0 → Type 0 → Type 0
Provided condition promise = condition → promise
