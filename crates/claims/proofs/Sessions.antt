-- The verifier's record in an opening, and what the three moves answer there: nothing is refused, every round holds, and the end is accepted.
--   transcript S G M E       a message's transcript in one row, with the final element as it is passed by value
--   session_after S G M E t  the record after t rounds
use mathlib.Core.Path.{◌≡◌, refl, sym, ap, ◌∙◌}
use mathlib.Core.Bool.{true, false}
use mathlib.Core.List.{List}
use Prim.Native.Nat.{ℕ, zero, suc, ◌<◌, ◌≤◌}
use native.Mathlib.Nat as Nat
use native.Mathlib.Numerals.{add-one}
use native.Mathlib.Omega.{arith}
use borrow.Author.Tests.{eq-eqb, le-leb, lt-ltb}
use lib.ListN.{get_or}
use lib.IntN.{ℤ, pos}
use Rattle.protocol.specs.declared.Settings.{Settings}
use Rattle.protocol.specs.declared.Session.{Session}
use Rattle.protocol.specs.Answers.{Verdict as Says}
use Rattle.protocol.specs.Basic.{tabulate, choose, granted, within}
use Rattle.protocol.specs.Element.{Element, width, padded_signed, value_row, residue, residue_at}
use Rattle.protocol.specs.Layout.{key_cells}
use Rattle.protocol.specs.Settings.{all_below, residue_rows, exponents}
use Rattle.protocol.specs.Opening.{commitment, round_element, message_after, final_element}
use Rattle.protocol.specs.Rows.{key_row, at_rows, keys_after}
use Rattle.protocol.specs.Transcript.{Transcript, element, claim_after, Accepted, round_holds, next_claim, final_bounded, end_holds, end_met}
use Rattle.protocol.specs.Session.{verdict, opened, start_refusal, start, shut, part, session_round_refusal, advanced, session_round_holds, round, session_end_refusal, session_end_holds, end}
use Rattle.protocol.specs.Calls.{polynomial}
use Rattle.protocol.specs.Inputs.{Below}
use Rattle.protocol.proofs.Tests.{and_intro, every-intro, first_nothing, zero_first, zero-unless}
use Rattle.protocol.proofs.Reading.{tabulate_at}
use Rattle.protocol.proofs.Inputs.{valid-settings, degree_most, below_tested, below_sized}
use Rattle.protocol.proofs.OpeningLaws.{round_at}
use Rattle.protocol.proofs.Ranges.{reduced-below, commitment-below, round-below, last_padded_at}
use Rattle.protocol.proofs.Rows.{at_rows_at, keys_row}
use Rattle.protocol.proofs.Agreement.{Same, claim_same, round_same}
use Rattle.claims.proofs.Claims.{sent}
use Rattle.claims.proofs.Completeness.{complete-beyond}
use Rattle.claims.proofs.RowLaws.{at_rows_ext, at_rows-tested, part_at}
use Rattle.claims.proofs.Honest.{Given, degree-positive, modulus-positive}
use Rattle.claims.proofs.Stored.{stored, stored-exponents, stored-ending}
use Rattle.claims.proofs.Prover.{challenge-tested}

-- a message's transcript in one row, with the final element as it is passed by value
abbrev pub transcript : Settings → List ℕ → List ℤ → List ℕ → Transcript
transcript S G M E = sent S G M E (commitment S G M) (padded_signed S.degree (final_element S (message_after S E S.depth M)))

unfoldable pub session_after : Settings → List ℕ → List ℤ → List ℕ → ℕ → Session
session_after S G M E t = record {
  settings = S;
  done = t;
  claims = at_rows S (λ r. claim_after S (transcript S (key_row S G r) M E) t);
  challenges = stored E t;
  closed = false;
}

module _ {S : Settings} {G : List ℕ} {M : List ℤ} {E : List ℕ} (ok : Given S G M E) where
  open S use {degree as d, depth as L, modulus as q, rows as rows}

  pq : 0 < q
  pq = modulus-positive S ok.settings

  wide : d ≤ width
  wide = degree_most S ok.settings

  -- the transcript of row r
  abbrev T : ℕ → Transcript
  T r = transcript S (key_row S G r) M E

  abbrev session : ℕ → Session
  session = session_after S G M E

  abbrev committed : List ℕ
  committed = at_rows S (λ r. commitment S (key_row S G r) M)

  -- the prover's polynomial in round t + 1
  abbrev p : ℕ → List (List ℕ)
  p t = polynomial S t (keys_after S E t G) (message_after S E t M)

  by_value : (f : ℕ → List ℕ) (r k : ℕ) → r < rows → k < d → get_or (value_row (at_rows S f) r) k 0 ≡ get_or (f r) k 0
  by_value f r k h l = at_rows_at S f r k ok.settings.rows_most_holds wide h l

  value-tested : (f : ℕ → List ℕ) → ((r : ℕ) → r < rows → Below q d (f r)) → residue_rows S (at_rows S f) ≡ true
  value-tested = at_rows-tested S ok.settings.rows_most_holds wide

  claim_given : (r t : ℕ) → Below q d (claim_after S (T r) t)
  unfolding claim_after next_claim
  claim_given r zero = commitment-below S pq (key_row S G r) M
  claim_given r (suc t) = reduced-below q pq d _

  stored-tested : (t : ℕ) → t ≤ L → exponents S (stored E t) ≡ true
  stored-tested t l = stored-exponents S (degree-positive S ok.settings) E t (λ i h. challenge-tested ok i (omega arith))

  row_accepted : (r : ℕ) → Accepted S (key_row S G r) (T r)
  row_accepted r = complete-beyond S (degree-positive S ok.settings) pq (key_row S G r) M E _ _ (λ k l. refl)
      (last_padded_at S (message_after S E L M)) ok.settings.modulus_odd ok.message.each

  -- ---- start

  start-granted : start_refusal S committed ≡ 0
  unfolding start_refusal
  start-granted = zero_first _ _ (valid-settings S ok.settings) (zero_first _ _ (zero-unless 8 _ (value-tested _ (λ r _. commitment-below S pq (key_row S G r) M))) first_nothing)

  start-opens : opened S committed ≡ session 0
  unfolding opened session_after claim_after stored
  start-opens = rw (at_rows_ext S (λ r. tabulate d (λ k. get_or (value_row committed r) k 0)) (λ r. commitment S (key_row S G r) M)
      (λ r k h l. tabulate_at d _ 0 k l ∙ by_value (λ r. commitment S (key_row S G r) M) r k h l))

  pub start-answer : start S committed ≡ record { refusal = 0; next = session 0 }
  unfolding start granted
  start-answer = rw (start-granted, start-opens)

  -- ---- round

  part-tested : (t j : ℕ) → j < 3 → residue_rows S (part (p t) j) ≡ true
  part-tested t j l = ap (residue_rows S) (part_at S t _ _ j l) ∙ value-tested _ (λ r _. round-below S pq t _ _ j)

  move-granted : (t : ℕ) → t < L → session_round_refusal (session t) (p t) (get_or E t 0) ≡ 0
  unfolding session_round_refusal session_after
  move-granted t l =
      zero_first _ _ (valid-settings S ok.settings)
      (zero_first _ _ (zero-unless 8 _
      (and_intro (and_intro (and_intro (value-tested _ (λ r _. claim_given r t)) (part-tested t 0 (omega arith))) (part-tested t 1 (omega arith))) (part-tested t 2 (omega arith))))
      (zero_first _ _ (zero-unless 10 _ (and_intro (stored-tested t (omega arith)) (challenge-tested ok t l)))
      (zero_first _ _ (zero-unless 11 _ (and_intro (lt-ltb _ _ l) refl)) first_nothing)))

  module _ (t : ℕ) (l : t < L) where
    -- row r of an element as it is passed by value
    same : (r j : ℕ) → r < rows → j < 3 → Same d (residue (value_row (part (p t) j) r)) (element S (T r) t j)
    unfolding residue element residue_at
    same r j h lj k lk = ap pos
        (ap (λ c. get_or (value_row c r) k 0) (part_at S t (keys_after S E t G) (message_after S E t M) j lj)
        ∙ by_value (λ r. round_element S t (key_row S (keys_after S E t G) r) (message_after S E t M) j) r k h lk
        ∙ ap (λ K. get_or (round_element S t K (message_after S E t M) j) k 0) (keys_row S E G t r h)
        ∙ sym (round_at S E (key_row S G r) M t j k l lj lk))

    move_holds : session_round_holds (session t) (p t) ≡ true
    unfolding session_round_holds session_after round_holds
    move_holds = every-intro (λ r h.
        round_same S (same r 0 h (omega arith)) (same r 1 h (omega arith)) (same r 2 h (omega arith))
        (value_row (session t).claims r) (claim_after S (T r) t) (λ k lk. by_value (λ r. claim_after S (T r) t) r k h lk)
        ∙ every-intro (λ k lk. eq-eqb _ _ ((row_accepted r).every_round t l k lk)))

    move_advances : advanced (session t) (p t) (get_or E t 0) ≡ session (suc t)
    unfolding advanced session_after stored
    move_advances = rw (add-one t, next)
      where
        c : ℕ → ℕ → Element
        c j r = residue (value_row (part (p t) j) r)

        next : at_rows S (λ r. next_claim S (get_or E t 0) (c 0 r) (c 1 r) (c 2 r)) ≡ at_rows S (λ r. claim_after S (T r) (suc t))
        next = unfold claim_after in at_rows_ext S _ _ (λ r k h lk.
            ap (λ x. get_or x k 0) (claim_same S (same r 0 h (omega arith)) (same r 1 h (omega arith)) (same r 2 h (omega arith)) (get_or E t 0)))

    pub session-round-answer : round (session t) (p t) (get_or E t 0) ≡ record { refusal = 0; verdict = Says.Holds; next = session (suc t) }
    unfolding round granted choose
    session-round-answer = rw (move-granted t l, move_holds, move_advances)

  -- ---- end

  close-granted : session_end_refusal (session L) G ≡ 0
  unfolding session_end_refusal session_after all_below
  close-granted =
      zero_first _ _ (valid-settings S ok.settings)
      (zero_first _ _ (zero-unless 7 _ (below_sized q (key_cells S) G ok.key))
      (zero_first _ _ (zero-unless 8 _ (and_intro (below_tested q (key_cells S) G ok.key) (value-tested _ (λ r _. claim_given r L))))
      (zero_first _ _ (zero-unless 10 _ (stored-tested L (Nat.le_refl L)))
      (zero_first _ _ (zero-unless 11 _ (and_intro (eq-eqb L L refl) refl)) first_nothing))))

  abbrev last : List ℤ
  last = padded_signed d (final_element S (message_after S E L M))

  close_holds : session_end_holds (session L) last G ≡ true
  unfolding session_end_holds session_after end_met final_bounded end_holds within
  close_holds = every-intro (λ r h. and_intro
      (every-intro (λ k l. le-leb _ _ ((row_accepted r).in_bound k l)))
      (every-intro (λ k l. eq-eqb _ _ (by_value (λ r. claim_after S (T r) L) r k h l ∙ (row_accepted r).at-end k l ∙ stored-ending S ok.settings.depth_most (key_row S G r) E _ k))))

  pub session-end-answer : end (session L) last G ≡ record { refusal = 0; verdict = Says.Accepted; next = shut (session L) }
  unfolding end granted verdict choose
  session-end-answer = rw (close-granted, close_holds)
