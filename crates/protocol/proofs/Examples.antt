-- Rows of worked examples: what the definitions give and what is wanted, both as lists of numbers, and a test that they agree.
use mathlib.Core.Path.{◌≡◌, refl, ap, ap₂}
use mathlib.Core.Bool.{Bool, true, false, ◌&&◌, false≢true}
use mathlib.Core.List.{List, [], ◌∷◌, ◌++◌, map}
use borrow.Author.Tests.{eqb-true}
use Prim.Native.Nat.{ℕ}
use lib.Dec.{eqb}
use lib.IntN.{ℤ, pos, negsuc}
use Rattle.protocol.specs.declared.Session.{Session}
use Rattle.protocol.specs.Answers.{Moved}
use Rattle.protocol.specs.Answers.{Verdict}
use Rattle.protocol.specs.Basic.{choose}
use Rattle.protocol.specs.Rows.{Cause}
use Rattle.protocol.specs.Session.{verdict_number}
use Rattle.protocol.proofs.Tests.{and_split}

pub record Example : Type 0 where
  pub given : List ℤ
  pub wanted : List ℤ

abbrev pub number : ℕ → ℕ → Example
number given wanted = record { given = pos given ∷ []; wanted = pos wanted ∷ [] }

unfoldable pub same_number : ℤ → ℤ → Bool
same_number (pos a) (pos b) = eqb a b
same_number (pos a) (negsuc b) = false
same_number (negsuc a) (pos b) = false
same_number (negsuc a) (negsuc b) = eqb a b

unfoldable pub same_numbers : List ℤ → List ℤ → Bool
same_numbers [] [] = true
same_numbers [] (y ∷ ys) = false
same_numbers (x ∷ xs) [] = false
same_numbers (x ∷ xs) (y ∷ ys) = same_number x y && same_numbers xs ys

unfoldable pub agree : Example → Bool
agree x = same_numbers x.given x.wanted

-- a test as a number: 1 for yes
unfoldable pub as_number : Bool → List ℤ
as_number b = choose b (pos 1) (pos 0) ∷ []

-- a cause as a number: 0 none, i for round i, 100 the bound, 101 the equation
unfoldable pub cause_number : Cause → List ℤ
cause_number Cause.none = pos 0 ∷ []
cause_number (Cause.round i) = pos i ∷ []
cause_number Cause.bound = pos 100 ∷ []
cause_number Cause.equation = pos 101 ∷ []

-- a verdict as a number
unfoldable pub verdict_as_number : Verdict → ℤ
verdict_as_number v = pos (verdict_number v)

-- a record as numbers: settings, rounds done, closed, the challenges, and the claims' places
unfoldable pub record_numbers : Session → List ℤ
record_numbers r =
    map pos (r.settings.degree ∷ r.settings.depth ∷ r.settings.modulus ∷ r.settings.bound ∷ r.settings.rows ∷ r.done ∷ [])
    ++ as_number r.closed
    ++ map pos r.challenges
    ++ map pos r.claims

-- a move's answer as numbers: the refusal, the verdict, the record
unfoldable pub move_numbers : Moved → List ℤ
move_numbers m = pos m.refusal ∷ verdict_as_number m.verdict ∷ record_numbers m.next

-- whoever unfolds `agreeing` unfolds these definitions
unfoldable pub agreeing : Unit {0}
unfolding same_number same_numbers agree as_number cause_number verdict_number verdict_as_number record_numbers move_numbers
agreeing = tt

-- ---- what the test says: a row that agrees is an equation

same_number_lem : (x y : ℤ) → same_number x y ≡ true → x ≡ y
unfolding same_number
same_number_lem (pos a) (pos b) t = ap pos (eqb-true a b t)
same_number_lem (pos a) (negsuc b) t = absurd (false≢true t)
same_number_lem (negsuc a) (pos b) t = absurd (false≢true t)
same_number_lem (negsuc a) (negsuc b) t = ap negsuc (eqb-true a b t)

same_numbers_lem : (l m : List ℤ) → same_numbers l m ≡ true → l ≡ m
unfolding same_numbers
same_numbers_lem [] [] t = refl
same_numbers_lem [] (y ∷ m) t = absurd (false≢true t)
same_numbers_lem (x ∷ l) [] t = absurd (false≢true t)
same_numbers_lem (x ∷ l) (y ∷ m) t = let both = and_split {a = same_number x y} {b = same_numbers l m} t in ap₂ ◌∷◌ (same_number_lem x y both.0) (same_numbers_lem l m both.1)

pub agree-equal : (x : Example) → agree x ≡ true → x.given ≡ x.wanted
unfolding agree
agree-equal x t = same_numbers_lem x.given x.wanted t
