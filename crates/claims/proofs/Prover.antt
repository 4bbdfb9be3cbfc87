-- What the prover's calls answer in an opening, with t folds done: nothing is refused, and each gives what it is defined to give.
use mathlib.Core.Path.{◌≡◌, refl, sym}
use mathlib.Core.Bool.{Bool, true, false, ◌&&◌}
use mathlib.Core.List.{List, ◌∷◌}
use Prim.Native.Nat.{ℕ, suc, ◌*◌, ◌^◌, ◌<◌, ◌≤◌}
use native.Mathlib.Nat as Nat
use native.Mathlib.Omega.{arith}
use borrow.Author.Tests.{eq-eqb, lt-ltb}
use lib.Dec.{leb, ltb}
use lib.ListN.{get_or}
use lib.IntN.{ℤ}
use Rattle.protocol.specs.declared.Settings.{Settings}
use Rattle.protocol.specs.Basic.{first, unless, granted}
use Rattle.protocol.specs.Element.{padded_signed}
use Rattle.protocol.specs.Layout.{key_cells, left_cells}
use Rattle.protocol.specs.Settings.{settings_refusal, cells, has_length, all_below, exponent}
use Rattle.protocol.specs.Opening.{commitment, message_after, final_element}
use Rattle.protocol.specs.Rows.{key_row, at_rows, keys_after}
use Rattle.protocol.specs.Calls.{commit_refusal, commit_answer, left_small, moving_small, round_refusal, polynomial, round_answer, fold_refusal, fold_key_exit, fold_message_exit, ending_small}
use Rattle.protocol.specs.Calls.{end_refusal, end_answer}
use Rattle.protocol.specs.Inputs.{Below}
use Rattle.protocol.proofs.Tests.{and_intro, first_nothing, zero_first, zero-unless}
use Rattle.protocol.proofs.Inputs.{valid-settings, below_tested, below_sized, within_tested}
use Rattle.protocol.proofs.OpeningLaws.{message-length}
use Rattle.protocol.proofs.Rows.{keys-suc}
use Rattle.claims.proofs.Bounds.{left_within}
use Rattle.claims.proofs.RowLaws.{cells-positive, keys_below}
use Rattle.claims.proofs.Honest.{Given, degree-positive, modulus-positive}

-- a test that is made only where another passes
tested_where : (b c : Bool) → c ≡ true → (elim b as (λ _. Bool) [ true ↦ c | false ↦ true ]) ≡ true
tested_where true c e = e
tested_where false c e = refl

module _ {S : Settings} {G : List ℕ} {M : List ℤ} {E : List ℕ} (ok : Given S G M E) where
  open S use {degree as d, depth as L, modulus as q, bound as B}

  -- the tables after t folds
  abbrev message : ℕ → List ℤ
  message t = message_after S E t M

  abbrev key : ℕ → List ℕ
  key t = keys_after S E t G

  some-cells : 0 < cells S
  some-cells = cells-positive S (degree-positive S ok.settings)

  key_given : (t : ℕ) → Below q (key_cells S) (key t)
  key_given t = keys_below S (modulus-positive S ok.settings) some-cells E t G ok.key

  message-sized : (t : ℕ) → has_length (cells S) (message t) ≡ true
  unfolding has_length
  message-sized t = eq-eqb _ _ (message-length S E t M ok.message.long)

  left-small : (t : ℕ) → t ≤ L → left_small S t (message t) ≡ true
  unfolding left_small
  left-small t l = within_tested (2 ^ t * B) (left_cells S t) _ (left_within S (degree-positive S ok.settings) E M ok.message t l)

  -- refusals 3 to 8 of a call on both tables
  tables-granted : (K : List ℕ) → Below q (key_cells S) K → (t : ℕ) (rest : List ℕ) → first rest ≡ 0
      → first (settings_refusal S ∷ unless 7 (has_length (key_cells S) K && has_length (cells S) (message t)) ∷ unless 8 (all_below S K) ∷ rest) ≡ 0
  unfolding all_below
  tables-granted K b t rest e =
      zero_first _ _ (valid-settings S ok.settings)
      (zero_first _ _ (zero-unless 7 _ (and_intro (below_sized q (key_cells S) K b) (message-sized t)))
      (zero_first _ _ (zero-unless 8 _ (below_tested q (key_cells S) K b)) e))

  -- ---- commit

  commit-granted : commit_refusal S G M ≡ 0
  unfolding commit_refusal message_after
  commit-granted = tables-granted G ok.key 0 _ (zero_first _ _ (zero-unless 9 _ (within_tested B (cells S) M ok.message)) first_nothing)

  pub commit-answer : commit_answer S G M ≡ record { refusal = 0; commitment = at_rows S (λ r. commitment S (key_row S G r) M) }
  unfolding commit_answer granted
  commit-answer = rw commit-granted

  -- ---- round and fold

  moving-small : (t : ℕ) → t < L → moving_small S t (message t) ≡ true
  unfolding moving_small
  moving-small t l = tested_where (ltb t L) _ (left-small t (omega arith))

  round-granted : (t : ℕ) → t < L → round_refusal S t (key t) (message t) ≡ 0
  unfolding round_refusal
  round-granted t l = tables-granted (key t) (key_given t) t _ (zero_first _ _ (zero-unless 9 _ (moving-small t l)) (zero_first _ _ (zero-unless 11 _ (lt-ltb _ _ l)) first_nothing))

  pub round-answer : (t : ℕ) → t < L → round_answer S t (key t) (message t) ≡ record { refusal = 0; elements = polynomial S t (key t) (message t) }
  unfolding round_answer granted
  round-answer t l = rw (round-granted t l)

  pub challenge-tested : (t : ℕ) → t < L → exponent S (get_or E t 0) ≡ true
  unfolding exponent
  challenge-tested t l = lt-ltb _ _ (ok.challenges.each t l)

  pub fold-granted : (t : ℕ) → t < L → fold_refusal S t (get_or E t 0) (key t) (message t) ≡ 0
  unfolding fold_refusal
  fold-granted t l =
      tables-granted (key t) (key_given t) t _ (zero_first _ _ (zero-unless 9 _ (moving-small t l))
      (zero_first _ _ (zero-unless 10 _ (challenge-tested t l)) (zero_first _ _ (zero-unless 11 _ (lt-ltb _ _ l)) first_nothing)))

  pub fold_key_holds : (t : ℕ) → t < L → fold_key_exit S t (get_or E t 0) (key t) (message t) ≡ key (suc t)
  unfolding fold_key_exit granted
  fold_key_holds t l = rw (fold-granted t l) (sym (keys-suc S E G t some-cells))

  pub fold-message : (t : ℕ) → t < L → fold_message_exit S t (get_or E t 0) (key t) (message t) ≡ message (suc t)
  unfolding fold_message_exit message_after granted
  fold-message t l = rw (fold-granted t l)

  -- ---- end

  end-granted : end_refusal S L (message L) ≡ 0
  unfolding end_refusal ending_small
  end-granted =
      zero_first _ _ (valid-settings S ok.settings)
      (zero_first _ _ (zero-unless 7 _ (message-sized L))
      (zero_first _ _ (zero-unless 9 _ (tested_where (leb L L) _ (left-small L (Nat.le_refl L))))
      (zero_first _ _ (zero-unless 11 _ (eq-eqb L L refl)) first_nothing)))

  pub end-answer : end_answer S L (message L) ≡ record { refusal = 0; last = padded_signed d (final_element S (message L)) }
  unfolding end_answer granted
  end-answer = rw end-granted
