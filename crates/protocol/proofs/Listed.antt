-- What is by value, computed place by place. `tabulate` hands its function on with one step more at each place, so that a list of n places takes n² steps to compute; `listed` takes n.
--
--   listed at n f            f at, f (at + 1), … , n places
--   at_rows-listed           the elements of the rows by value
--   commit-listed, start-listed, round-listed, polynomial-listed   the calls that answer with them
use mathlib.Core.Path.{◌≡◌, refl, ◌∙◌}
use mathlib.Core.Bool.{Bool, true, false, ◌&&◌, false≢true}
use mathlib.Core.List.{List, [], ◌∷◌}
use Prim.Native.Nat.{ℕ, zero, suc, ◌+◌, ◌/◌, ◌%◌}
use native.Mathlib.Nat as Nat
use native.Mathlib.Omega.{arith}
use lib.Dec.{ltb}
use lib.ListN.{get_or, set}
use lib.IntN.{ℤ}
use Rattle.protocol.specs.declared.Settings.{Settings}
use Rattle.protocol.specs.declared.Session.{Session}
use Rattle.protocol.specs.Answers.{Moved}
use Rattle.protocol.specs.Answers.Verdict.{Holds}
use Rattle.protocol.specs.Basic.{tabulate, flat, choose}
use Rattle.protocol.specs.Element.{width, residue, value_row, zeros}
use Rattle.protocol.specs.Layout.{rows_width, slots}
use Rattle.protocol.specs.Rows.{key_row, at_rows}
use Rattle.protocol.specs.Session.{blank, start, start_refusal, opened, part, round, session_round_refusal, session_round_holds, advanced}
use Rattle.protocol.specs.Transcript.{next_claim}
use Rattle.protocol.specs.Opening.{commitment, round_element}
use Rattle.protocol.specs.Calls.{commit_refusal, commit_answer, round_refusal, polynomial, round_answer}
use Rattle.protocol.proofs.Tests.{granted-zero}

unfoldable pub listed {ℓ} : {A : Type ℓ} → ℕ → ℕ → (ℕ → A) → List A
listed at zero f = []
listed at (suc n) f = f at ∷ listed (suc at) n f

tabulate_from {ℓ} : {A : Type ℓ} (n at : ℕ) (f : ℕ → A) → tabulate n (λ i. f (at + i)) ≡ listed at n f
unfolding tabulate listed
tabulate_from zero at f = refl
tabulate_from (suc n) at f = λ j. f (Nat.add-zero at j) ∷ (step ∙ tabulate_from n (suc at) f) j
  where
    moved : (i : ℕ) → at + suc i ≡ suc at + i
    moved i = omega arith

    step : tabulate n (λ i. f (at + suc i)) ≡ tabulate n (λ i. f (suc at + i))
    step = λ j. tabulate n (λ i. f (moved i j))

tabulate_listed {ℓ} : {A : Type ℓ} (n : ℕ) (f : ℕ → A) → tabulate n f ≡ listed 0 n f
tabulate_listed n f = (λ j. tabulate n (λ i. f (whole i j))) ∙ tabulate_from n 0 f
  where
    whole : (i : ℕ) → i ≡ 0 + i
    whole i = omega arith

abbrev pub listed_rows : Settings → (ℕ → List ℕ) → List ℕ
listed_rows S f = listed 0 rows_width (λ p. choose (ltb (p / width) S.rows && ltb (p % width) S.degree) (get_or (f (p / width)) (p % width) 0) 0)

pub at_rows-listed : (S : Settings) (f : ℕ → List ℕ) → at_rows S f ≡ listed_rows S f
unfolding at_rows flat
at_rows-listed S f = tabulate_listed rows_width _

-- ---- the calls, where nothing is refused: each rule asks for the places that are answered as they are computed one by one

pub commit-listed : (S : Settings) (key : List ℕ) (message : List ℤ) {C : List ℕ} → commit_refusal S key message ≡ 0
    → listed_rows S (λ r. commitment S (key_row S key r) message) ≡ C → (commit_answer S key message).commitment ≡ C
unfolding commit_answer
commit-listed S key message passed e = granted-zero _ _ _ passed ∙ at_rows-listed S _ ∙ e

pub polynomial-listed : (S : Settings) (t : ℕ) (key : List ℕ) (message : List ℤ) {c0 c1 c2 : List ℕ} → round_refusal S t key message ≡ 0
    → listed_rows S (λ r. round_element S t (key_row S key r) message 0) ≡ c0
    → listed_rows S (λ r. round_element S t (key_row S key r) message 1) ≡ c1
    → listed_rows S (λ r. round_element S t (key_row S key r) message 2) ≡ c2
    → (round_answer S t key message).elements ≡ c0 ∷ c1 ∷ c2 ∷ []
unfolding round_answer polynomial tabulate
polynomial-listed S t key message passed e0 e1 e2 =
    granted-zero _ _ _ passed ∙ λ i. (each 0 ∙ e0) i ∷ (each 1 ∙ e1) i ∷ (each 2 ∙ e2) i ∷ []
  where
    each : (j : ℕ) → at_rows S (λ r. round_element S t (key_row S key r) message j) ≡ listed_rows S (λ r. round_element S t (key_row S key r) message j)
    each j = at_rows-listed S _

pub start-listed : (S : Settings) (C : List ℕ) {claims : List ℕ} → start_refusal S C ≡ 0
    → listed_rows S (λ r. tabulate S.degree (λ k. get_or (value_row C r) k 0)) ≡ claims
    → start S C ≡ record { refusal = 0; next = record { settings = S; done = 0; claims = claims; challenges = zeros slots; closed = false } }
unfolding start
start-listed S C {claims} passed e = λ i. record { refusal = passed i; next = (granted-zero (start_refusal S C) (opened S C) blank passed ∙ next) i }
  where
    next : opened S C ≡ record { settings = S; done = 0; claims = claims; challenges = zeros slots; closed = false }
    next = unfold opened in λ i. record {
      settings = S;
      done = 0;
      claims = (at_rows-listed S (λ r. tabulate S.degree (λ k. get_or (value_row C r) k 0)) ∙ e) i;
      challenges = zeros slots;
      closed =
          false;
    }

chosen : (b : Bool) (x y : Moved) → b ≡ true → choose b x y ≡ x
unfolding choose
chosen true x y e = refl
chosen false x y e = absurd (false≢true e)

pub round-listed : (r : Session) (p : List (List ℕ)) (e : ℕ) {claims : List ℕ} → session_round_refusal r p e ≡ 0 → session_round_holds r p ≡ true
    → listed_rows r.settings (λ i. next_claim r.settings e (residue (value_row (part p 0) i)) (residue (value_row (part p 1) i)) (residue (value_row (part p 2) i))) ≡ claims
    → round r p e ≡ record {
      refusal = 0;
      verdict = Holds;
      next = record {
        settings = r.settings;
        done = r.done + 1;
        claims = claims;
        challenges = set r.challenges r.done e;
        closed = r.closed;
      };
    }
unfolding round
round-listed r p e {claims} passed met c =
    granted-zero _ _ _ passed
    ∙ chosen (session_round_holds r p) _ _ met
    ∙ λ i. record { refusal = 0; verdict = Holds; next = next i }
  where
    next : advanced r p e ≡ record { settings = r.settings; done = r.done + 1; claims = claims; challenges = set r.challenges r.done e; closed = r.closed }
    next = unfold advanced in λ i. record {
      settings = r.settings;
      done = r.done + 1;
      claims = (at_rows-listed r.settings (λ i. next_claim r.settings e (residue (value_row (part p 0) i)) (residue (value_row (part p 1) i)) (residue (value_row (part p 2) i))) ∙ c) i;
      challenges = set r.challenges r.done e;
      closed = r.closed;
    }
