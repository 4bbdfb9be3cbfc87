-- A call's refusal, one test after the other: the first number that is not 0 stands.
--
-- A function asks its tests in order, and each answer is the refusal so far. Such a refusal stands at the head of the definition's list for all tests up to it:
-- `first_known` puts the first answer there, `first_tested` each next one, and `first_only` ends the list; `first_stops` ends it at a refusal.
-- Where nothing is refused, `none-refused` says that every test of a list passed; `passed_all` is the other way round.
use mathlib.Core.Path.{◌≡◌, refl, sym, ap, ◌∙◌}
use mathlib.Core.Logic.{◌≢◌}
use mathlib.Core.Bool.{Bool, true, false, ◌&&◌}
use mathlib.Core.List.{List, [], ◌∷◌, ◌++◌}
use Prim.Native.Nat.{ℕ, zero, suc, ◌<◌, ◌≤◌}
use native.Mathlib.Omega.{arith}
use borrow.Author.Tests.{le-leb, lt-leb, lt-ltb, le-ltb}
use lib.IntN.{ℤ}
use Rattle.protocol.specs.declared.Settings.{Settings}
use Rattle.protocol.specs.Basic.{first, unless, Tested}
use Rattle.protocol.specs.Tree.{root_vector}
use Rattle.protocol.specs.Calls.{left_small, moving_small, ending_small, extract_refusal, extract_exit}
use Rattle.protocol.proofs.Tests.{first_nothing, first_zero, zero_first, unless-zero, zero-unless, granted_refused}

pub first_stops : (x : ℕ) (rest : List ℕ) → (x ≡ 0 → ⊥) → first (x ∷ rest) ≡ x
unfolding first
first_stops zero rest n = absurd (n refl)
first_stops (suc x) rest n = refl

pub first_passes : (x : ℕ) (rest : List ℕ) → x ≡ 0 → first (x ∷ rest) ≡ first rest
unfolding first
first_passes zero rest e = refl
first_passes (suc x) rest e = absurd (omega arith)

pub first_only : (x : ℕ) → first (x ∷ []) ≡ x
unfolding first
first_only zero = refl
first_only (suc x) = refl

pub first_fails : (n : ℕ) (b : Bool) (rest : List ℕ) → b ≡ false → first (unless (suc n) b ∷ rest) ≡ suc n
unfolding first unless
first_fails n b rest e = ap (λ t. first (unless (suc n) t ∷ rest)) e

pub first_holds : (n : ℕ) (b : Bool) (rest : List ℕ) → b ≡ true → first (unless n b ∷ rest) ≡ first rest
unfolding first unless
first_holds n b rest e = ap (λ t. first (unless n t ∷ rest)) e

-- a conjunction fails with either side
pub and_fails_left : (a b : Bool) → a ≡ false → (a && b) ≡ false
and_fails_left a b e = ap (λ t. t && b) e

pub and_fails_right : (a b : Bool) → b ≡ false → (a && b) ≡ false
and_fails_right true b e = e
and_fails_right false b e = refl

-- ---- the refusal so far at the head of a list

-- several tests are known at once
pub front-joined : (shared rest : List ℕ) → first (shared ++ rest) ≡ first (first shared ∷ rest)
unfolding first
front-joined [] rest = refl
front-joined (zero ∷ shared) rest = front-joined shared rest
front-joined (suc x ∷ shared) rest = refl

pub front-stops : (shared rest : List ℕ) → (first shared ≡ 0 → ⊥) → first (shared ++ rest) ≡ first shared
front-stops shared rest n = front-joined shared rest ∙ first_stops _ rest n

pub front-passes : (shared rest : List ℕ) → first shared ≡ 0 → first (shared ++ rest) ≡ first rest
front-passes shared rest e = front-joined shared rest ∙ first_passes _ rest e

-- the first is known
pub first_known : (x : ℕ) (rest : List ℕ) {r : ℕ} → r ≡ x → first (x ∷ rest) ≡ first (r ∷ rest)
first_known x rest e = ap (λ y. first (y ∷ rest)) (sym e)

asked : (x number : ℕ) (b t : Bool) (rest : List ℕ) → (x ≡ 0 → t ≡ b) → first (x ∷ unless number t ∷ rest) ≡ first (x ∷ unless number b ∷ rest)
unfolding first
asked zero number b t rest h = ap (λ u. first (unless number u ∷ rest)) (h refl)
asked (suc x) number b t rest h = refl

-- one more is known: the test t that was asked is the definition's test b, at least where nothing is refused before it
pub first_tested : {x number : ℕ} {t : Bool} {r : ℕ} (b : Bool) (rest : List ℕ) → Tested x number t r → (x ≡ 0 → t ≡ b) → first (x ∷ unless number b ∷ rest) ≡ first (r ∷ rest)
first_tested {x} {number} {t} {r} b rest e h = sym (ap (λ y. first (y ∷ rest)) e.is ∙ sym (front-joined (x ∷ unless number t ∷ []) rest) ∙ asked x number b t rest h)

-- the head of most calls' lists: the settings, 3 to 6 and 16, and then the lengths, 7. The lengths that the code compares with are the definitions' where the settings are allowed
pub lengths-tested : {x s : ℕ} {t : Bool} {r : ℕ} (b : Bool) → x ≡ s → Tested x 7 t r → (s ≡ 0 → t ≡ b) → Tested s 7 b r
lengths-tested b e asked same = record { is = sym (first_known _ _ e ∙ first_tested b [] asked (λ z. same (sym e ∙ z)) ∙ first_only _) }

-- nothing is refused after a test: so nothing was before it, and it passed
pub tested-before : {x number : ℕ} {t : Bool} {r : ℕ} → Tested x number t r → r ≡ 0 → x ≡ 0
tested-before e z = (first_zero _ _ (sym e.is ∙ z)).0

pub tested-passed : {x n : ℕ} {t : Bool} {r : ℕ} → Tested x (suc n) t r → r ≡ 0 → t ≡ true
tested-passed {n} {t} e z = unless-zero n t (first_zero _ _ (first_zero _ _ (sym e.is ∙ z)).1).0

-- ---- nothing is refused

-- tests with their numbers, each given as one less; what they refuse, and that all of them pass
abbrev pub refusals_of : List (ℕ × Bool) → List ℕ
refusals_of [] = []
refusals_of ((n, b) ∷ tests) = unless (suc n) b ∷ refusals_of tests

abbrev pub Passed : List (ℕ × Bool) → Type 0
Passed [] = Unit
Passed ((n, b) ∷ tests) = (b ≡ true) × Passed tests

pub all_passed : (tests : List (ℕ × Bool)) → first (refusals_of tests) ≡ 0 → Passed tests
all_passed [] e = tt
all_passed ((n, b) ∷ tests) e = let (z, more) = first_zero _ _ e in (unless-zero n b z, all_passed tests more)

pub passed_all : (tests : List (ℕ × Bool)) → Passed tests → first (refusals_of tests) ≡ 0
passed_all [] p = first_nothing
passed_all ((n, b) ∷ tests) p = zero_first _ _ (zero-unless (suc n) b p.0) (passed_all tests p.1)

pub none-refused : {x : ℕ} (tests : List (ℕ × Bool)) → first (x ∷ refusals_of tests) ≡ 0 → (x ≡ 0) × Passed tests
none-refused tests e = let (z, more) = first_zero _ _ e in (z, all_passed tests more)

-- ---- refusal 9 in a prover's call: what is left is tested up to L in the end, below L in a round or a fold

module _ (S : Settings) (t : ℕ) (message : List ℤ) where
  pub ending-tested : t ≤ S.depth → ending_small S t message ≡ left_small S t message
  unfolding ending_small
  ending-tested h = ap (λ b. elim b as (λ _. Bool) [ true ↦ left_small S t message | false ↦ true ]) (le-leb t S.depth h)

  pub ending-over : S.depth < t → ending_small S t message ≡ true
  unfolding ending_small
  ending-over h = ap (λ b. elim b as (λ _. Bool) [ true ↦ left_small S t message | false ↦ true ]) (lt-leb t S.depth h)

  pub moving_tested : t < S.depth → moving_small S t message ≡ left_small S t message
  unfolding moving_small
  moving_tested h = ap (λ b. elim b as (λ _. Bool) [ true ↦ left_small S t message | false ↦ true ]) (lt-ltb t S.depth h)

  pub moving_over : S.depth ≤ t → moving_small S t message ≡ true
  unfolding moving_small
  moving_over h = ap (λ b. elim b as (λ _. Bool) [ true ↦ left_small S t message | false ↦ true ]) (le-ltb t S.depth h)

-- ---- a refused extractor leaves w, whichever test refuses it

pub extract-keeps : (S : Settings) (C key rounds E : List ℕ) (finals w : List ℤ) → extract_refusal S C key rounds E finals w ≢ 0 → extract_exit S C key rounds E finals w ≡ w
unfolding extract_exit
extract-keeps S C key rounds E finals w = granted_refused (extract_refusal S C key rounds E finals w) (root_vector S E finals) w
