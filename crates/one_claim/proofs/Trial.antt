-- Demand 3 put to use at the worked example, with one row and with two (PROTOCOL 12.1 and 12.7): whoever has the claim gets, at one stroke, what a caller of the whole opening and a caller of the moves rely on. Every field of
-- the claim is used, and refused calls of every kind stand in the gaps, so that a claim that says less no longer gives this. (TrialTree does the same for the extractor.)
--   run₁              a list of calls that makes the opening of the example with one row move by move, refused calls of every kind standing between, on one table or the other
--   opening_gives     from the claim: the whole opening is not refused, says accepted and gives an accepted transcript
--   moves-give        from the claim: whatever such a list is, it ends with the answers and both tables of the whole opening
--   functions_give    the same from the claim of the functions, over the values that a call of the whole opening gave
use mathlib.Core.Path.{◌≡◌, refl, ap, ◌∙◌, subst}
use mathlib.Core.Logic.{◌≢◌}
use mathlib.Core.Bool.{true, false}
use mathlib.Core.List.{List, [], ◌∷◌}
use Prim.Native.Nat.{ℕ, suc, ◌-◌}
use Rattle.protocol.specs.Layout.{width, key_cells}
use native.Mathlib.Omega.{arith}
use lib.ListN.{replicate}
use lib.IntN.{ℤ, pos}
use Rattle.protocol.specs.declared.Session.{Session}
use Rattle.protocol.specs.declared.Parts.{Parts}
use Rattle.protocol.specs.Answers.{Opened}
use Rattle.protocol.specs.Answers.{Verdict}
use Rattle.protocol.specs.Answers.{Verdict as Says}
use Rattle.protocol.specs.Settings.{cells}
use Rattle.protocol.specs.Rows.{together, AllAccepted}
use Rattle.protocol.specs.Session.{blank}
use Rattle.protocol.specs.Calls.{opening_answer}
use Rattle.protocol.specs.Inputs.{Valid, Below, Within}
use Rattle.protocol.specs.Promises.{Opening}
use Rattle.one_claim.specs.Demand3.{State, KeyTable, MessageTable, Record, Call, turns, moves, step, begun, Gap, Run, OpeningClaim, Demand3}
use Rattle.one_claim.specs.Demand3.{lent_key, lent_message, handed, tables, refusal, back_key, back_message, back_record, after, hear, hear_commitment, hear_polynomial, hear_last, hear_verdict}
use Rattle.one_claim.specs.Performed.{Performance, PerformedDemand3}
use Rattle.protocol.proofs.Compute.{computed}
use Rattle.protocol.proofs.Listing.{S₁, key₁, message₁, commitment₁, rounds₁, Sʷ, keyʷ, commitmentʷ, roundsʷ}
use Rattle.text_format.proofs.ComputeText.{computed_text}
use Rattle.protocol.proofs.Inputs.{settings-valid, tested-below, tested_within}

unfoldable ran : Unit {0}
unfolding
    computed computed_text
    lent_key lent_message handed tables refusal back_key back_message back_record after turns moves hear hear_commitment hear_polynomial hear_last hear_verdict step begun
ran = tt

-- ---- refused calls, of every kind

abbrev key_and_message : Parts
key_and_message = record { key = true; message = true; commitment = false; rounds = false; challenges = false; last = false; claims = false }

abbrev nothing : KeyTable
nothing = KeyTable.other []

-- a commitment of our message with another key, whose length is wrong (7)
abbrev short : Call
short = Call.commit S₁ (KeyTable.other (1 ∷ [])) MessageTable.ours

-- a round with all rounds done (11)
abbrev over : Call
over = Call.round S₁ 1 KeyTable.ours MessageTable.ours

-- a fold of our message with another key, whose length is wrong (7)
abbrev strange : Call
strange = Call.fold S₁ 0 0 (KeyTable.other (1 ∷ [])) MessageTable.ours

-- a fold of both tables with a challenge out of range (10)
abbrev late : Call
late = Call.fold S₁ 0 4 KeyTable.ours MessageTable.ours

-- an end with more folds named than there are rounds (11)
abbrev beyond : Call
beyond = Call.end S₁ 2 MessageTable.ours

-- a whole opening on both tables whose table of challenges is our key (7)
abbrev whole : Call
whole = Call.opening S₁ KeyTable.ours MessageTable.ours KeyTable.copy nothing

-- a move on the record as it stands before the start (3), and one on another record with a challenge out of range (10)
abbrev early : Call
early = Call.session_round Record.ours [] 0

abbrev wild : Call
wild = Call.session_round
    (Record.other (record { settings = S₁; done = 0; claims = commitment₁; challenges = replicate 8 0; closed = false })) ((0 ∷ []) ∷ (0 ∷ []) ∷ (0 ∷ []) ∷ []) 4

-- an end of the session with a key of the wrong length (7)
abbrev hasty : Call
hasty = Call.session_end Record.ours (pos 1 ∷ []) nothing

-- a check of a transcript whose round elements are our key (7)
abbrev mistaken : Call
mistaken = Call.check S₁ commitment₁ (pos 1 ∷ []) KeyTable.ours KeyTable.copy (KeyTable.other (1 ∷ []))

-- a judge with no slack (15)
abbrev slackless : Call
slackless = Call.judge S₁ commitment₁ 0 KeyTable.ours (replicate 4 (pos 0))

-- an extractor whose leaves are our message (7)
abbrev leafless : Call
leafless = Call.extract S₁ commitment₁ KeyTable.ours (KeyTable.other rounds₁) (KeyTable.other (0 ∷ 1 ∷ 2 ∷ [])) MessageTable.ours (replicate 4 (pos 0))

-- a text that is none, read into both tables (2)
abbrev junk : Call
junk = Call.read key_and_message (1 ∷ []) KeyTable.ours MessageTable.ours nothing nothing nothing (MessageTable.other []) nothing

-- our tables written where there is no room (7)
abbrev roomless : Call
roomless = Call.write S₁ key_and_message KeyTable.ours MessageTable.ours nothing nothing nothing (MessageTable.other []) nothing []

nonzero : (n : ℕ) → suc n ≢ 0
nonzero n e = omega arith

pub run₁ : (st : State) × Run S₁ (1 ∷ []) (moves 1) (begun message₁ key₁ blank) st
unfolding ran
run₁ = (
  _,
  Run.go (Gap.refused early (nonzero 2) (Gap.refused junk (nonzero 1) (Gap.refused short (nonzero 6) Gap.none)))
      (Run.go (Gap.refused late (nonzero 9) (Gap.refused over (nonzero 10) Gap.none))
      (Run.go (Gap.refused whole (nonzero 6) (Gap.refused wild (nonzero 9) Gap.none))
      (Run.go (Gap.refused hasty (nonzero 6) (Gap.refused mistaken (nonzero 6) Gap.none))
      (Run.go (Gap.refused strange (nonzero 6) (Gap.refused leafless (nonzero 6) Gap.none))
      (Run.go (Gap.refused roomless (nonzero 6) (Gap.refused beyond (nonzero 10) Gap.none))
      (Run.go (Gap.refused slackless (nonzero 14) Gap.none)
      (Run.stop (Gap.refused junk (nonzero 1) (Gap.refused roomless (nonzero 6) Gap.none))))))))),
)

-- ---- what the claim gives

pub validʷ : Valid Sʷ
validʷ = settings-valid Sʷ (unfold computed in refl)

pub key_below : Below 17 (key_cells Sʷ) keyʷ
key_below = tested-below 17 (key_cells Sʷ) keyʷ (unfold computed in refl) (unfold computed in refl)

message-within : Within 1 (cells Sʷ) message₁
message-within = tested_within 1 (cells Sʷ) message₁ (unfold computed in refl) (unfold computed in refl)

challenge-below : Below 4 1 (1 ∷ [])
challenge-below = tested-below 4 1 (1 ∷ []) (unfold computed in refl) (unfold computed in refl)

-- the final element as it is passed by value
abbrev lastʷ : List ℤ
lastʷ = pos 1 ∷ pos 0 ∷ replicate (width - 2) (pos 0)

openedʷ : Demand3 → OpeningClaim Sʷ keyʷ message₁ (1 ∷ []) (replicate 12 0)
unfolding computed
openedʷ claim = (claim Sʷ keyʷ validʷ key_below).opening message₁ (1 ∷ []) (replicate 12 0) message-within challenge-below refl

pub record Whole (number : ℕ) (verdict : Verdict) : Type 0 where
  pub not_refused : number ≡ 0
  pub verdict_accepted : verdict ≡ Says.Accepted
  pub transcript : AllAccepted Sʷ keyʷ (record { commitment = 15 ∷ 4 ∷ 12 ∷ 12 ∷ []; rounds = roundsʷ; challenges = 1 ∷ []; last = lastʷ })

pub opening_gives : Demand3 → Whole (opening_answer Sʷ keyʷ message₁ (1 ∷ []) (replicate 12 0)).refusal (opening_answer Sʷ keyʷ message₁ (1 ∷ []) (replicate 12 0)).verdict
unfolding computed
opening_gives claim = let o = openedʷ claim in record { not_refused = o.not_refused; verdict_accepted = o.says_accepted; transcript = o.is_accepted }

pub record Given (st : State) : Type 0 where
  pub no_refusal : st.heard.numbers ≡ replicate 7 0
  pub commitment : st.heard.commitment ≡ commitmentʷ
  pub rounds : st.heard.rounds ≡ roundsʷ
  pub last : st.heard.last ≡ lastʷ
  pub verdict : st.heard.verdict ≡ Says.Accepted
  pub message : st.held.message ≡ pos 1 ∷ pos 0 ∷ pos 1 ∷ pos 0 ∷ []
  pub key : st.held.key ≡ 1 ∷ 12 ∷ 7 ∷ 2 ∷ 5 ∷ 7 ∷ 7 ∷ 0 ∷ []
  pub copy : st.held.copy ≡ keyʷ

pub moves-give : Demand3 → (r : Session) (st : State) → Run Sʷ (1 ∷ []) (moves 1) (begun message₁ keyʷ r) st → Given st
unfolding computed
moves-give claim r st run =
    let same = (openedʷ claim).by_moves r st run in
    record {
      no_refusal = same.no_refusal;
      commitment = same.same_commitment;
      rounds = same.same_rounds;
      last = same.same_last;
      verdict = same.same_verdict ∙ (openedʷ claim).says_accepted;
      message = same.same_message;
      key = same.same_key;
      copy = same.copy_kept;
    }

module _ (claim : PerformedDemand3) (r : Opened) (key' : List ℕ) (message' : List ℤ) (rounds' : List ℕ) (call : Opening Sʷ keyʷ message₁ (1 ∷ []) (replicate 12 0) r key' message' rounds') where
  pub record Performed (st : State) : Type 0 where
    pub whole : Whole r.refusal r.verdict
    pub moves : Given st

  pub functions_give : (s : Session) (st : State) → Performance Sʷ (1 ∷ []) (moves 1) (begun message₁ keyʷ s) st → Performed st
  unfolding computed
  functions_give s st performed =
      let o = (claim Sʷ keyʷ validʷ key_below).opening message₁ (1 ∷ []) (replicate 12 0) message-within challenge-below refl r key' message' rounds' call in
      let same = o.by_moves s st performed in
      record {
        whole = record {
          not_refused = o.not_refused;
          verdict_accepted = o.says_accepted;
          transcript = subst
              (AllAccepted Sʷ keyʷ)
              (λ i. record { commitment = together Sʷ (call.answer i).commitment; rounds = call.rounds_exit i; challenges = 1 ∷ []; last = (call.answer i).last })
              o.is_accepted;
        };
        moves = record {
          no_refusal = same.no_refusal;
          commitment = same.same_commitment ∙ ap (λ x. x.commitment) call.answer;
          rounds = same.same_rounds ∙ call.rounds_exit;
          last = same.same_last ∙ ap (λ x. x.last) call.answer;
          verdict = same.same_verdict ∙ o.says_accepted;
          message = same.same_message ∙ call.message_exit;
          key = same.same_key ∙ call.key_exit;
          copy = same.copy_kept;
        };
      }
