-- The whole opening of inputs that nothing refuses: it is not refused, it says accepted, and what it gives is an accepted transcript.
--   Given S G M E    inputs of an opening that nothing refuses
use mathlib.Core.Path.{◌≡◌, refl, sym, ap, ◌∙◌, subst}
use mathlib.Core.List.{List}
use Prim.Native.Nat.{ℕ, ◌*◌, ◌<◌}
use native.Mathlib.Omega.{arith}
use borrow.Author.Tests.{eq-eqb}
use lib.ListN.{length}
use lib.Pow as Pow
use lib.IntN.{ℤ}
use Rattle.protocol.specs.declared.Settings.{Settings}
use Rattle.protocol.specs.Answers.{Verdict as Says}
use Rattle.protocol.specs.Basic.{choose}
use Rattle.protocol.specs.Element.{padded_signed}
use Rattle.protocol.specs.Layout.{key_cells, round_cells, exponent_count}
use Rattle.protocol.specs.Settings.{cells, has_length, all_below, exponent, exponents}
use Rattle.protocol.specs.Opening.{commitment, message_after, final_element}
use Rattle.protocol.specs.Transcript.{Transcript, Accepted}
use Rattle.protocol.specs.Rows.{key_row, at_rows, together, row_of, commitments, round_tables, keys_after, transcripts_of, AllAccepted}
use Rattle.protocol.specs.Session.{verdict}
use Rattle.protocol.specs.Calls.{opening_refusal, opening_answer, opening_rounds_exit, opening_key_exit, opening_message_exit}
use Rattle.protocol.specs.Inputs.{Valid, Below, Within}
use Rattle.protocol.proofs.Tests.{and_intro, first_nothing, zero_first, zero-unless, granted-zero}
use Rattle.protocol.proofs.Inputs.{valid-settings, degree_most, below_tested, below_sized, within_tested, within_sized}
use Rattle.protocol.proofs.Acceptance.{all_accepted-test}
use Rattle.protocol.proofs.Ranges.{last_padded_at}
use Rattle.protocol.proofs.Rows.{transcript_row}
use Rattle.claims.proofs.Completeness.{complete, complete-beyond}
use Rattle.claims.proofs.RowLaws.{commitments-together, sent_row}

pub degree-positive : (S : Settings) → Valid S → 0 < S.degree
degree-positive S ok = subst (λ n. 0 < n) (sym ok.degree_is) (Pow.pow_pos ok.log)

pub modulus-positive : (S : Settings) → Valid S → 0 < S.modulus
modulus-positive S ok = omega (arith, ok.modulus_least)

pub record Given (S : Settings) (G : List ℕ) (M : List ℤ) (E : List ℕ) : Type 0 where
  pub settings : Valid S
  pub key : Below S.modulus (key_cells S) G
  pub message : Within S.bound (cells S) M
  pub challenges : Below (exponent_count S) S.depth E

-- the message's transcript is accepted in every row
pub transcripts_accepted : {S : Settings} {G : List ℕ} {M : List ℤ} {E : List ℕ} → Given S G M E → AllAccepted S G (transcripts_of S G M E)
transcripts_accepted {S} {G} {M} {E} ok r h = subst (Accepted S (key_row S G r)) (sym (transcript_row S G M E r (degree-positive S ok.settings) h))
    (complete S (degree-positive S ok.settings) ok.settings.modulus_odd (key_row S G r) M E ok.message.each)

module _ {S : Settings} {G : List ℕ} {M : List ℤ} {E : List ℕ} (ok : Given S G M E) (rounds : List ℕ) (rounds_long : length rounds ≡ round_cells S) where
  open S use {degree as d, depth as L, modulus as q, bound as B}

  pub opening-granted : opening_refusal S G M E rounds ≡ 0
  unfolding opening_refusal all_below exponents exponent has_length
  opening-granted =
      zero_first _ _ (valid-settings S ok.settings)
      (zero_first _ _ (zero-unless 7 _
      (and_intro (and_intro (and_intro (below_sized q (key_cells S) G ok.key) (within_sized B (cells S) M ok.message)) (below_sized (2 * d) L E ok.challenges)) (eq-eqb _ _ rounds_long)))
      (zero_first _ _ (zero-unless 8 _ (below_tested q (key_cells S) G ok.key))
      (zero_first _ _ (zero-unless 9 _ (within_tested B (cells S) M ok.message))
      (zero_first _ _ (zero-unless 10 _ (below_tested (2 * d) L E ok.challenges)) first_nothing))))

  -- what it gives

  pub opening-commitment : (opening_answer S G M E rounds).commitment ≡ at_rows S (λ r. commitment S (key_row S G r) M)
  unfolding opening_answer
  opening-commitment = granted-zero _ _ _ opening-granted

  pub opening_last : (opening_answer S G M E rounds).last ≡ padded_signed d (final_element S (message_after S E L M))
  unfolding opening_answer transcripts_of
  opening_last = granted-zero _ _ _ opening-granted

  pub opening-rounds : opening_rounds_exit S G M E rounds ≡ round_tables S E G M
  unfolding opening_rounds_exit
  opening-rounds = granted-zero _ _ _ opening-granted

  pub opening-key : opening_key_exit S G M E rounds ≡ keys_after S E L G
  unfolding opening_key_exit
  opening-key = granted-zero _ _ _ opening-granted

  pub opening-message : opening_message_exit S G M E rounds ≡ message_after S E L M
  unfolding opening_message_exit
  opening-message = granted-zero _ _ _ opening-granted

  pub opening-verdict : (opening_answer S G M E rounds).verdict ≡ Says.Accepted
  unfolding opening_answer verdict choose
  opening-verdict = granted-zero _ _ _ opening-granted ∙ ap verdict (all_accepted-test S G _ (transcripts_accepted ok))

  -- the transcript that the call gives
  abbrev answered : Transcript
  answered = record {
    commitment = together S (opening_answer S G M E rounds).commitment;
    rounds = opening_rounds_exit S G M E rounds;
    challenges = E;
    last = (opening_answer S G M E rounds).last;
  }

  pub opening-accepted : AllAccepted S G answered
  opening-accepted r h = subst (Accepted S (key_row S G r)) (sym (ap (λ T. row_of S T r) sent ∙ sent_row S G M E _ r p h))
      (complete-beyond S p (modulus-positive S ok.settings) (key_row S G r) M E _ _ (λ k l. refl) (last_padded_at S (message_after S E L M)) ok.settings.modulus_odd ok.message.each)
    where
      p : 0 < d
      p = degree-positive S ok.settings

      flat-commitment : together S (opening_answer S G M E rounds).commitment ≡ commitments S G M
      flat-commitment = ap (together S) opening-commitment ∙ commitments-together S ok.settings.rows_most_holds (degree_most S ok.settings) G M p

      sent : answered ≡ record { commitment = commitments S G M; rounds = round_tables S E G M; challenges = E; last = padded_signed d (final_element S (message_after S E L M)) }
      sent = λ i. record { commitment = flat-commitment i; rounds = opening-rounds i; challenges = E; last = opening_last i }
