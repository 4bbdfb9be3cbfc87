-- The challenges that a record holds after t rounds: exponents all of them, and for the folds of a key as good as the challenges themselves.
--   stored E t    the list of eight, the first t of E stored one after the other
use mathlib.Core.Path.{◌≡◌, refl, sym, ◌∙◌, subst}
use mathlib.Core.Bool.{Bool, true}
use mathlib.Core.List.{List, [], ◌∷◌}
use Prim.Native.Nat.{ℕ, zero, suc, ◌*◌, ◌<◌, ◌≤◌}
use native.Mathlib.Decide.{ℕ_discrete}
use native.Mathlib.Omega.{arith}
use borrow.Author.Tests.{lt-ltb}
use lib.ListN.{length, get_or, set, length-set, length-replicate}
use lib.Seq.{get_or-set_same, get_or-set_other}
use Rattle.protocol.specs.declared.Settings.{Settings}
use Rattle.protocol.specs.Basic.{all}
use Rattle.protocol.specs.Element.{Element, zeros}
use Rattle.protocol.specs.Settings.{exponent, exponents}
use Rattle.protocol.specs.Transcript.{ending, folded_key}
use Rattle.protocol.specs.Session.{slots}
use Rattle.protocol.proofs.Tests.{and_split, and_intro, all_replicate}
use Rattle.protocol.proofs.OpeningLaws.{key-challenges}

-- PROTOCOL 4.3: the new challenge is in its slot, and the slots behind it are still 0
unfoldable pub stored : List ℕ → ℕ → List ℕ
stored E zero = zeros slots
stored E (suc t) = set (stored E t) t (get_or E t 0)

stored-length : (E : List ℕ) (t : ℕ) → length (stored E t) ≡ slots
unfolding stored zeros
stored-length E zero = length-replicate {A = ℕ} slots 0
stored-length E (suc t) = length-set (stored E t) t _ ∙ stored-length E t

stored_at : (E : List ℕ) (t i : ℕ) → i < t → t ≤ slots → get_or (stored E t) i 0 ≡ get_or E i 0
unfolding stored
stored_at E zero i h l = absurd (omega arith)
stored_at E (suc t) i h l = elim (ℕ_discrete i t) [
  | yes e ↦ subst (λ i. get_or (set (stored E t) t (get_or E t 0)) i 0 ≡ get_or E i 0) (sym e) (get_or-set_same (stored E t) t _ 0 (omega (arith, stored-length E t)))
  | no n ↦ get_or-set_other (stored E t) t i _ 0 n ∙ stored_at E t i (omega arith) (omega arith)
]

all_set {ℓ} : {A : Type ℓ} (f : A → Bool) (l : List A) (i : ℕ) (a : A) → all f l ≡ true → f a ≡ true → all f (set l i a) ≡ true
unfolding all
all_set f [] i a e h = refl
all_set f (x ∷ l) zero a e h = and_intro h (and_split {a = f x} e).1
all_set f (x ∷ l) (suc i) a e h = let (first, rest) = and_split {a = f x} e in and_intro first (all_set f l i a rest h)

pub stored-exponents : (S : Settings) → 0 < S.degree → (E : List ℕ) (t : ℕ) → ((i : ℕ) → i < t → exponent S (get_or E i 0) ≡ true) → exponents S (stored E t) ≡ true
unfolding exponents exponent stored zeros
stored-exponents S p E zero e = all_replicate (exponent S) slots 0 (lt-ltb 0 (2 * S.degree) (omega arith))
stored-exponents S p E (suc t) e = all_set (exponent S) (stored E t) t _ (stored-exponents S p E t (λ i h. e i (omega arith))) (e t (omega arith))

pub stored-ending : (S : Settings) → S.depth ≤ slots → (key E : List ℕ) (f : Element) (k : ℕ) → ending S f (folded_key S key E) k ≡ ending S f (folded_key S key (stored E S.depth)) k
unfolding ending
stored-ending S l key E f k = rw (key-challenges S E (stored E S.depth) key S.depth (λ i h. sym (stored_at E S.depth i h l)))
