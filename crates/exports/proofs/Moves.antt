-- An opening by the exported calls, move by move: after commitment, start and t rounds both tables are folded t times, the slices hold the record after t rounds
-- and the commitment, and what was heard is no refusal and the elements of t rounds.
--   state_after S G M E t q f v  what is held and was heard then, q, f and v being the slices for polynomial and final element and the last verdict
--   finished S G M E q           the same at the end
use mathlib.Core.Path.{◌≡◌, sym, ap, ◌∙◌}
use mathlib.Core.List.{List, [], ◌∷◌, ◌++◌, append-nil, append_assoc}
use Prim.Native.Nat.{ℕ, zero, suc, ◌+◌, ◌*◌, ◌-◌, ◌<◌, ◌≤◌}
use native.Mathlib.Nat as Nat
use native.Mathlib.Numerals.{add-one}
use native.Mathlib.Omega.{arith}
use lib.IntN.{ℤ}
use lib.ListN.{length, take, drop, replicate}
use lib.Seq.{take_at, drop_at}
use Rattle.protocol.specs.declared.Settings.{Settings}
use Rattle.protocol.specs.Layout.{polynomial_cells, polynomial_at}
use Rattle.protocol.specs.Opening.{round_element, message_after}
use Rattle.protocol.specs.Rows.{key_row, at_rows, together, commitments, keys_after}
use Rattle.protocol.specs.Session.{part, shut}
use Rattle.one_claim.specs.Demand3.{Step, turns, moves}
use Rattle.protocol.proofs.Rows.{interleaved-length, keys-zero}
use Rattle.claims.proofs.RowLaws.{cells-positive, part_at}
use Rattle.claims.proofs.Honest.{Given, degree-positive}
use Rattle.claims.proofs.Prover.{fold-granted, fold_key_holds, fold-message}
use Rattle.claims.proofs.Sessions.{session_after}
use Rattle.claims.proofs.Moves.{rounds_after, rounds-zero, numbers-snoc}
use Rattle.claims.proofs.Moves as Value
use Rattle.slices.specs.Slices.{laid}
use Rattle.session_records.specs.Records.{numbers_of}
use Rattle.exports.specs.Claim.{State, Lengths, put_words, put_wholes, hear, hear_round, hear_verdict, step, begun, Run}
use Rattle.exports.proofs.Refused.{runs, run-steps}
use Rattle.exports.proofs.Steps.{p, final, commit-number, commit_exit_lem, start-number, start_exit_lem, round_number_lem, round_exit_lem, slice_long}
use Rattle.exports.proofs.Steps.{check-number, check_exit, check-verdict, end-number, end_exit_lem, close-number, close_exit, close-verdict}

module _ (S : Settings) (G : List ℕ) (M : List ℤ) (E : List ℕ) where
  unfoldable pub state_after : ℕ → List ℕ → List ℤ → ℕ → State
  state_after t q f v = record {
    held = record {
      message = message_after S E t M;
      key = keys_after S E t G;
      copy = G;
      session = numbers_of (session_after S G M E t);
      commitment = commitments S G M;
      polynomial = q;
      last = f;
      folds = t;
    };
    heard = record { numbers = replicate (2 + 3 * t) 0; rounds = rounds_after S G M E t; verdict = v };
  }

  unfoldable pub finished : List ℕ → List ℤ → State
  finished q f = record {
    held = record {
      message = message_after S E S.depth M;
      key = keys_after S E S.depth G;
      copy = G;
      session = numbers_of (shut (session_after S G M E S.depth));
      commitment = commitments S G M;
      polynomial = q;
      last = f;
      folds = S.depth;
    };
    heard = record { numbers = replicate (4 + 3 * S.depth) 0; rounds = rounds_after S G M E S.depth; verdict = 2 };
  }

module _ {S : Settings} {G : List ℕ} {M : List ℤ} {E : List ℕ} (ok : Given S G M E) where
  open S use {degree as d, depth as L}

  -- ---- the round elements

  rounds-suc : (t : ℕ) → t < L → rounds_after S G M E t ++ laid S (p ok t) ≡ rounds_after S G M E (suc t)
  unfolding laid
  rounds-suc t l =
      ap (λ x. R ++ x) (λ i. together S (item 0 (omega arith) i) ++ (together S (item 1 (omega arith) i) ++ together S (item 2 (omega arith) i)))
      ∙ sym (append_assoc (R ++ together S (c 0)) (together S (c 1)) (together S (c 2)) ∙ append_assoc R (together S (c 0)) (together S (c 1) ++ together S (c 2)))
      ∙ Value.rounds-suc ok t l
    where
      R : List ℕ
      R = rounds_after S G M E t

      c : ℕ → List ℕ
      c j = at_rows S (λ r. round_element S t (key_row S (keys_after S E t G) r) (message_after S E t M) j)

      item : (j : ℕ) → j < 3 → part (p ok t) j ≡ c j
      item j h = part_at S t (keys_after S E t G) (message_after S E t M) j h

  rounds-front : (n t : ℕ) → t + n ≤ L → (rest : List ℕ) × (rounds_after S G M E (t + n) ≡ rounds_after S G M E t ++ rest)
  rounds-front zero t l = ([], ap (rounds_after S G M E) (Nat.add-zero t) ∙ sym (append-nil (rounds_after S G M E t)))
  rounds-front (suc n) t l =
      let (rest, e) = rounds-front n (suc t) (omega arith) in (
        laid S (p ok t) ++ rest,
        ap (rounds_after S G M E) {y = suc t + n} (omega arith) ∙ e ∙ ap (λ x. x ++ rest) (sym (rounds-suc t (omega arith))) ∙ append_assoc (rounds_after S G M E t) (laid S (p ok t)) rest,
      )

  rounds_long : (t : ℕ) → length (rounds_after S G M E t) ≡ polynomial_at S t
  unfolding rounds_after
  rounds_long t = interleaved-length S (3 * t) _ ∙ ap (λ n. n * d) (Nat.mul_comm S.rows (3 * t)) ∙ Nat.mul_assoc (3 * t) S.rows d

  -- the polynomial of round t + 1 in the table of all rounds
  pub round-part : (t : ℕ) → t < L → take (polynomial_cells S) (drop (polynomial_at S t) (rounds_after S G M E L)) ≡ laid S (p ok t)
  round-part t l =
      let (rest, e) = rounds-front (L - suc t) (suc t) (omega arith) in
      ap (λ x. take (polynomial_cells S) (drop (polynomial_at S t) x))
      (ap (rounds_after S G M E) {y = suc t + (L - suc t)} (omega arith) ∙ e ∙ ap (λ x. x ++ rest) (sym (rounds-suc t l)) ∙ append_assoc (rounds_after S G M E t) (laid S (p ok t)) rest)
      ∙ ap (take (polynomial_cells S)) (drop_at (rounds_after S G M E t) (laid S (p ok t) ++ rest) (polynomial_at S t) (rounds_long t))
      ∙ take_at (laid S (p ok t)) rest (polynomial_cells S) (slice_long ok t l)

  -- ---- the steps

  run-begins : (r b q : List ℕ) (f : List ℤ) → Lengths S r b q f → (rest : List Step) → runs S E (Step.commits ∷ Step.starts ∷ rest) (begun M G r b q f) ≡ runs S E rest (state_after S G M E 0 q f 0)
  unfolding runs begun step put_words hear state_after message_after
  run-begins r b q f l rest = rw (
    commit-number ok b l.commitment,
    commit_exit_lem ok b l.commitment,
    start-number ok r l.session,
    start_exit_lem ok r l.session,
    rounds-zero ok,
    keys-zero S E G (cells-positive S (degree-positive S ok.settings)) ok.key.long,
  )

  run-turn : (t : ℕ) → t < L → (q : List ℕ) → length q ≡ polynomial_cells S → (f : List ℤ) (v : ℕ) (rest : List Step)
      → runs S E (Step.proves ∷ Step.checks ∷ Step.folds ∷ rest) (state_after S G M E t q f v) ≡ runs S E rest (state_after S G M E (suc t) (laid S (p ok t)) f 1)
  unfolding runs step put_words hear hear_round hear_verdict state_after
  run-turn t l q long f v rest = rw (
    round_number_lem ok t l q long,
    round_exit_lem ok t l q long,
    check-number ok t l,
    check_exit ok t l,
    check-verdict ok t l,
    fold_key_holds ok t l,
    fold-message ok t l,
    fold-granted ok t l,
    numbers-snoc (2 + 3 * t) (3 + 3 * t) (omega arith),
    numbers-snoc (3 + 3 * t) (4 + 3 * t) (omega arith),
    numbers-snoc (4 + 3 * t) (2 + 3 * suc t) (omega arith),
    rounds-suc t l,
    add-one t,
  )

  run-turns : (n t : ℕ) → t + n ≡ L → (q : List ℕ) → length q ≡ polynomial_cells S → (f : List ℤ) (v : ℕ) (rest : List Step)
      → (q' : List ℕ) × (v' : ℕ) × (runs S E (turns n ++ rest) (state_after S G M E t q f v) ≡ runs S E rest (state_after S G M E L q' f v'))
  unfolding turns
  run-turns zero t e q long f v rest = (q, v, ap (λ u. runs S E rest (state_after S G M E u q f v)) (omega arith))
  run-turns (suc n) t e q long f v rest =
      let l : t < L = omega arith in
      let (q', v', more) = run-turns n (suc t) (omega arith) (laid S (p ok t)) (slice_long ok t l) f 1 rest in
      (q', v', run-turn t l q long f v (turns n ++ rest) ∙ more)

  run_ends : (q : List ℕ) (f : List ℤ) → length f ≡ d → (v : ℕ) → runs S E (Step.ends ∷ Step.closes ∷ []) (state_after S G M E L q f v) ≡ finished S G M E q (final ok)
  unfolding runs step put_words put_wholes hear hear_verdict state_after finished
  run_ends q f long v = rw (
    end-number ok f long,
    end_exit_lem ok f long,
    close-number ok,
    close_exit ok,
    close-verdict ok,
    numbers-snoc (2 + 3 * L) (3 + 3 * L) (omega arith),
    numbers-snoc (3 + 3 * L) (4 + 3 * L) (omega arith),
  )

  pub run-finished : (r b q : List ℕ) (f : List ℤ) → Lengths S r b q f → (st : State) → Run S E (moves L) (begun M G r b q f) st → (q' : List ℕ) × (st ≡ finished S G M E q' (final ok))
  unfolding moves
  run-finished r b q f l st run =
      let (q', v, more) = run-turns L 0 (Nat.zero-add L) q l.polynomial f 0 (Step.ends ∷ Step.closes ∷ []) in
      (q', run-steps S E run ∙ run-begins r b q f l _ ∙ more ∙ run_ends q' f l.last v)
