-- An opening move by move: after commitment, start and t rounds both tables are folded t times, the record is that after t rounds, and what was heard is no refusal and
-- the elements of t rounds. So the list of calls ends as the whole opening does.
--   rounds_after S G M E t     the elements of the first t rounds, flat: item by item, in each row by row
--   state_after S G M E t p v  what is held and was heard after t rounds, p and v being the last polynomial and verdict
--   finished S G M E p         the same at the end
use mathlib.Core.Path.{◌≡◌, sym, ap, ◌∙◌}
use mathlib.Core.List.{List, [], ◌∷◌, ◌++◌}
use Prim.Native.Nat.{ℕ, zero, suc, ◌+◌, ◌*◌, ◌<◌}
use native.Mathlib.Nat as Nat
use native.Mathlib.Numerals.{add-one}
use native.Mathlib.Omega.{arith}
use lib.ListN.{get_or, replicate, replicate-append-replicate}
use lib.IntN.{ℤ}
use Rattle.protocol.specs.declared.Settings.{Settings}
use Rattle.protocol.specs.declared.Session.{Session}
use Rattle.protocol.specs.Answers.{Verdict}
use Rattle.protocol.specs.Answers.{Verdict as Says}
use Rattle.protocol.specs.Basic.{tabulate, flat}
use Rattle.protocol.specs.Element.{padded_signed}
use Rattle.protocol.specs.Layout.{item_of}
use Rattle.protocol.specs.Opening.{commitment, round_element, round_table, message_after, final_element}
use Rattle.protocol.specs.Rows.{key_row, interleaved, at_rows, together, keys_after}
use Rattle.protocol.specs.Session.{shut}
use Rattle.protocol.specs.Calls.{polynomial}
use Rattle.one_claim.specs.Demand3.{State, Step, turns, moves, hear, hear_commitment, hear_polynomial, hear_last, hear_verdict, step, begun, back_record, Run}
use Rattle.protocol.proofs.Reading.{flat_ext}
use Rattle.protocol.proofs.OpeningLaws.{round_at}
use Rattle.protocol.proofs.Inputs.{degree_most}
use Rattle.protocol.proofs.Rows.{together-at_rows, keys-zero, keys_row}
use Rattle.claims.proofs.RowLaws.{cells-positive, interleaved-suc}
use Rattle.claims.proofs.Honest.{Given, degree-positive}
use Rattle.claims.proofs.Refused.{runs, run-steps}
use Rattle.claims.proofs.Prover.{commit-answer, round-answer, fold-granted, fold_key_holds, fold-message, end-answer}
use Rattle.claims.proofs.Sessions.{session_after, start-answer, session-round-answer, session-end-answer}

module _ (S : Settings) (G : List ℕ) (M : List ℤ) (E : List ℕ) where
  open S use {degree as d, depth as L}

  abbrev committed : List ℕ
  committed = at_rows S (λ r. commitment S (key_row S G r) M)

  unfoldable pub rounds_after : ℕ → List ℕ
  rounds_after t = interleaved S (3 * t) (λ r. round_table S E (key_row S G r) M)

  unfoldable pub state_after : ℕ → List (List ℕ) → Verdict → State
  state_after t p v = record {
    held = record { message = message_after S E t M; key = keys_after S E t G; copy = G; session = session_after S G M E t; folds = t };
    heard = record { numbers = replicate (2 + 3 * t) 0; commitment = committed; polynomial = p; rounds = rounds_after t; last = []; verdict = v };
  }

  unfoldable pub finished : List (List ℕ) → State
  finished p = record {
    held = record { message = message_after S E L M; key = keys_after S E L G; copy = G; session = shut (session_after S G M E L); folds = L };
    heard = record {
      numbers = replicate (4 + 3 * L) 0;
      commitment = committed;
      polynomial = p;
      rounds = rounds_after L;
      last = padded_signed d (final_element S (message_after S E L M));
      verdict = Says.Accepted;
    };
  }

-- one call more that is not refused
pub numbers-snoc : (n m : ℕ) → suc n ≡ m → ◌++◌ {A = ℕ} (replicate n 0) (0 ∷ []) ≡ replicate m 0
numbers-snoc n m e = replicate-append-replicate n 1 0 ∙ ap (λ k. replicate k 0) (add-one n ∙ e)

module _ {S : Settings} {G : List ℕ} {M : List ℤ} {E : List ℕ} (ok : Given S G M E) where
  open S use {degree as d, depth as L}

  abbrev polynomial_at : ℕ → List (List ℕ)
  polynomial_at t = polynomial S t (keys_after S E t G) (message_after S E t M)

  -- ---- the round elements

  some-degree : 0 < d
  some-degree = degree-positive S ok.settings

  -- c_j of round t + 1 by value
  abbrev c : ℕ → ℕ → List ℕ
  c t j = at_rows S (λ r. round_element S t (key_row S (keys_after S E t G) r) (message_after S E t M) j)

  abbrev table : ℕ → List ℕ
  table r = round_table S E (key_row S G r) M

  item-own : (t j : ℕ) → t < L → j < 3 → flat d S.rows (λ r k. get_or (table r) (item_of t j * d + k) 0) ≡ together S (c t j)
  item-own t j lt lj =
      flat_ext d S.rows some-degree (λ r k h lk.
      round_at S E (key_row S G r) M t j k lt lj lk ∙ ap (λ K. get_or (round_element S t K (message_after S E t M) j) k 0) (sym (keys_row S E G t r h)))
      ∙ sym (together-at_rows S (λ r. round_element S t (key_row S (keys_after S E t G) r) (message_after S E t M) j) some-degree ok.settings.rows_most_holds (degree_most S ok.settings))

  pub rounds-zero : rounds_after S G M E 0 ≡ []
  unfolding rounds_after interleaved flat tabulate
  rounds-zero = rw (Nat.mul-zero S.rows, Nat.zero-mul d)

  pub rounds-suc : (t : ℕ) → t < L → rounds_after S G M E t ++ together S (c t 0) ++ together S (c t 1) ++ together S (c t 2) ≡ rounds_after S G M E (suc t)
  unfolding rounds_after
  rounds-suc t l = sym (ap (λ n. interleaved S n table) three ∙ rw (more 2 (omega arith), more 1 (omega arith), more 0 (omega arith), Nat.add-zero (3 * t)))
    where
      three : 3 * suc t ≡ 3 * t + 3
      three = omega arith

      more : (j : ℕ) → j < 3 → interleaved S (3 * t + suc j) table ≡ interleaved S (3 * t + j) table ++ together S (c t j)
      more j lj =
          ap (λ n. interleaved S n table) (Nat.add-suc (3 * t) j)
          ∙ interleaved-suc S (3 * t + j) table some-degree
          ∙ ap (λ l. interleaved S (3 * t + j) table ++ l) (item-own t j l lj)

  -- ---- the steps

  run-begins : (r : Session) (rest : List Step) → runs S E (Step.commits ∷ Step.starts ∷ rest) (begun M G r) ≡ runs S E rest (state_after S G M E 0 [] Says.Silent)
  unfolding runs begun step hear hear_commitment back_record state_after message_after
  run-begins r rest = rw (commit-answer ok, start-answer ok, rounds-zero, keys-zero S E G (cells-positive S some-degree) ok.key.long)

  run-turn : (t : ℕ) → t < L → (p : List (List ℕ)) (v : Verdict) (rest : List Step)
      → runs S E (Step.proves ∷ Step.checks ∷ Step.folds ∷ rest) (state_after S G M E t p v) ≡ runs S E rest (state_after S G M E (suc t) (polynomial_at t) Says.Holds)
  unfolding runs step hear hear_polynomial hear_verdict back_record state_after polynomial tabulate
  run-turn t l p v rest = rw (
    round-answer ok t l,
    session-round-answer ok t l,
    fold_key_holds ok t l,
    fold-message ok t l,
    fold-granted ok t l,
    numbers-snoc (2 + 3 * t) (3 + 3 * t) (omega arith),
    numbers-snoc (3 + 3 * t) (4 + 3 * t) (omega arith),
    numbers-snoc (4 + 3 * t) (2 + 3 * suc t) (omega arith),
    rounds-suc t l,
    add-one t,
  )

  run-turns : (n t : ℕ) → t + n ≡ L → (p : List (List ℕ)) (v : Verdict) (rest : List Step)
      → (p' : List (List ℕ)) × (v' : Verdict) × (runs S E (turns n ++ rest) (state_after S G M E t p v) ≡ runs S E rest (state_after S G M E L p' v'))
  unfolding turns
  run-turns zero t e p v rest = (p, v, ap (λ u. runs S E rest (state_after S G M E u p v)) (omega arith))
  run-turns (suc n) t e p v rest =
      let (p', v', more) = run-turns n (suc t) (omega arith) (polynomial_at t) Says.Holds rest in
      (p', v', run-turn t (omega arith) p v (turns n ++ rest) ∙ more)

  run_ends : (p : List (List ℕ)) (v : Verdict) → runs S E (Step.ends ∷ Step.closes ∷ []) (state_after S G M E L p v) ≡ finished S G M E p
  unfolding runs step hear hear_last hear_verdict back_record state_after finished
  run_ends p v = rw (end-answer ok, session-end-answer ok, numbers-snoc (2 + 3 * L) (3 + 3 * L) (omega arith), numbers-snoc (3 + 3 * L) (4 + 3 * L) (omega arith))

  pub run-finished : (r : Session) (st : State) → Run S E (moves L) (begun M G r) st → (p : List (List ℕ)) × (st ≡ finished S G M E p)
  unfolding moves
  run-finished r st run =
      let (p, v, more) = run-turns L 0 (Nat.zero-add L) [] Says.Silent (Step.ends ∷ Step.closes ∷ []) in
      (p, run-steps S E run ∙ run-begins r _ ∙ more ∙ run_ends p v)
