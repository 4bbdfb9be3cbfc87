-- From demand 3 to the functions: what a function's promise lets it answer and leave behind is what the definition says, so a list of calls that was performed is a run, and
-- what demand 3 says of the run holds of the values that the functions gave.
use mathlib.Core.Path.{◌≡◌, refl, sym, ap, ◌∙◌, subst}
use mathlib.Core.List.{List}
use Prim.Native.Nat.{ℕ, ◌+◌}
use lib.IntN.{ℤ}
use Rattle.protocol.specs.declared.Settings.{Settings}
use Rattle.protocol.specs.declared.Session.{Session}
use Rattle.protocol.specs.Answers.{Opened}
use Rattle.protocol.specs.Settings.{cells}
use Rattle.protocol.specs.Inputs.{Within}
use Rattle.protocol.specs.Element.{value_row}
use Rattle.protocol.specs.Rows.{key_row, together, AllAccepted}
use Rattle.protocol.specs.Tree.{growth}
use Rattle.protocol.specs.Judge.{slack, Opens}
use Rattle.protocol.specs.Calls.{judge_answer}
use Rattle.protocol.specs.Promises.{Opening, Extracted}
use Rattle.one_claim.specs.Demand3.{Held, Heard, State, Record, Call, Step, refusal, back_key, back_message, back_record, after, hear, hear_commitment, hear_polynomial, hear_last, hear_verdict}
use Rattle.one_claim.specs.Demand3.{step, begun, moves, Gap, Run, OpeningClaim, ExtractionClaim, Demand3}
use Rattle.one_claim.specs.Performed.{Answers, Refusals, Performs, Performance, SameAsAnswered, OpeningPerformed, ExtractionPerformed, PerformedDemand3}
use Rattle.claims.proofs.Demand3.{demand3}

-- ---- calls

-- the number
answers_number : {c : Call} {h h' : Held} {n : ℕ} → Answers c h n h' → n ≡ refusal h c
unfolding refusal
answers_number (Answers.commit r e) = ap (λ x. x.refusal) e
answers_number (Answers.round r e) = ap (λ x. x.refusal) e
answers_number (Answers.fold r key' message' p) = p.refusal
answers_number (Answers.end r e) = ap (λ x. x.refusal) e
answers_number (Answers.opening r key' message' rounds' p) = ap (λ x. x.refusal) p.answer
answers_number (Answers.session_round r e) = ap (λ x. x.refusal) e
answers_number (Answers.session_end r e) = ap (λ x. x.refusal) e
answers_number (Answers.check r e) = ap (λ x. x.refusal) e
answers_number (Answers.judge r e) = ap (λ x. x.refusal) e
answers_number (Answers.extract r w' p) = p.refusal
answers_number (Answers.read r t' p) = ap (λ x. x.refusal) p.answer
answers_number (Answers.write r out' p) = ap (λ x. x.refusal) p.answer

-- what is held after it
answers-after : {c : Call} {h h' : Held} {n : ℕ} → Answers c h n h' → h' ≡ after c h
unfolding after
answers-after (Answers.commit r e) = refl
answers-after (Answers.round r e) = refl
answers-after (Answers.fold {h} {k} {m} r key' message' p) = λ i. back_key k (p.key_exit i) (back_message m (p.message_exit i) h)
answers-after (Answers.end r e) = refl
answers-after (Answers.opening {h} {k} {m} {o} r key' message' rounds' p) = λ i. back_key k (p.key_exit i) (back_key o (p.rounds_exit i) (back_message m (p.message_exit i) h))
answers-after (Answers.session_round {h} {s} r e) = ap (λ x. back_record s x.next h) e
answers-after (Answers.session_end {h} {s} r e) = ap (λ x. back_record s x.next h) e
answers-after (Answers.check r e) = refl
answers-after (Answers.judge r e) = refl
answers-after (Answers.extract r w' p) = refl
answers-after (Answers.read {h} {k} {m} {c} {o} {e} {f} {v} r t' p) = ap
    (λ x. back_key k x.key (back_message m x.message (back_key c x.commitment
    (back_key o x.rounds (back_key e x.challenges (back_message f x.last (back_key v x.claims h))))))) p.tables_exit
answers-after (Answers.write r out' p) = refl

refusals_gap : {h h' : Held} → Refusals h h' → Gap h h'
refusals_gap Refusals.none = Gap.none
refusals_gap (Refusals.refused {h''} {c} a n rest) = Gap.refused c (λ z. n (answers_number a ∙ z)) (subst (λ x. Gap x h'') (answers-after a) (refusals_gap rest))

-- ---- the list of calls

module _ (S : Settings) (E : List ℕ) where
  performs_step : {s : Step} {h : Held} {a : Heard} {b : State} → Performs S E s h a b → b ≡ step S E s h a
  unfolding step
  performs_step (Performs.commits {h} {a} r e) = ap (λ x. record { held = h; heard = hear_commitment x.commitment (hear x.refusal a) }) e
  performs_step (Performs.starts {h} {a} r e) = ap (λ x. record { held = back_record Record.ours x.next h; heard = hear x.refusal a }) e
  performs_step (Performs.proves {h} {a} r e) = ap (λ x. record { held = h; heard = hear_polynomial S x.elements (hear x.refusal a) }) e
  performs_step (Performs.checks {h} {a} r e) = ap (λ x. record { held = back_record Record.ours x.next h; heard = hear_verdict x.verdict (hear x.refusal a) }) e
  performs_step (Performs.folds {h} {a} r key' message' p) = λ i. record {
    held = record { message = p.message_exit i; key = p.key_exit i; copy = h.copy; session = h.session; folds = h.folds + 1 };
    heard = hear (p.refusal i) a;
  }
  performs_step (Performs.ends {h} {a} r e) = ap (λ x. record { held = h; heard = hear_last x.last (hear x.refusal a) }) e
  performs_step (Performs.closes {h} {a} r e) = ap (λ x. record { held = back_record Record.ours x.next h; heard = hear_verdict x.verdict (hear x.refusal a) }) e

  pub performance_run : {steps : List Step} {a b : State} → Performance S E steps a b → Run S E steps a b
  performance_run (Performance.stop g) = Run.stop (refusals_gap g)
  performance_run (Performance.go {c} {rest} g p more) = Run.go (refusals_gap g) (subst (λ x. Run S E rest x c) (performs_step p) (performance_run more))

-- ---- what demand 3 says of them

opening_performed : (S : Settings) (G : List ℕ) (M : List ℤ) (E rounds : List ℕ) → OpeningClaim S G M E rounds
    → (r : Opened) (key' : List ℕ) (message' : List ℤ) (rounds' : List ℕ) → Opening S G M E rounds r key' message' rounds' → OpeningPerformed S G M E r key' message' rounds'
opening_performed S G M E rounds claim r key' message' rounds' call = record {
  not_refused = ap (λ x. x.refusal) call.answer ∙ claim.not_refused;
  says_accepted = ap (λ x. x.verdict) call.answer ∙ claim.says_accepted;
  is_accepted = subst
      (AllAccepted S G)
      (λ i. record { commitment = together S (sym call.answer i).commitment; rounds = sym call.rounds_exit i; challenges = E; last = (sym call.answer i).last })
      claim.is_accepted;
  by_moves = same;
}
  where
    same : (s : Session) (st : State) → Performance S E (moves S.depth) (begun M G s) st → SameAsAnswered S G r key' message' rounds' st
    same s st performed =
        let whole = claim.by_moves s st (performance_run S E performed) in
        record {
          no_refusal = whole.no_refusal;
          same_commitment = whole.same_commitment ∙ ap (λ x. x.commitment) (sym call.answer);
          same_rounds = whole.same_rounds ∙ sym call.rounds_exit;
          same_last = whole.same_last ∙ ap (λ x. x.last) (sym call.answer);
          same_verdict = whole.same_verdict ∙ ap (λ x. x.verdict) (sym call.answer);
          same_message = whole.same_message ∙ sym call.message_exit;
          same_key = whole.same_key ∙ sym call.key_exit;
          copy_kept = whole.copy_kept;
        }

extraction_performed : (S : Settings) (G C rounds E : List ℕ) (finals w : List ℤ) → ExtractionClaim S G C rounds E finals w
    → (n : ℕ) (w' : List ℤ) → Extracted S C G rounds E finals w n w' → ExtractionPerformed S G C E finals n w'
extraction_performed S G C rounds E finals w claim n w' call = record {
  not_refused = call.refusal ∙ claim.not_refused;
  in_bound = subst (Within (growth S) (cells S)) (sym call.w_exit) claim.in_bound;
  opens = λ r h. subst (Opens S (key_row S G r) (value_row C r) (slack S)) (sym call.w_exit) (claim.opens r h);
  judge_says_yes = λ j e. e ∙ ap (judge_answer S C (slack S) G) call.w_exit ∙ claim.judge_says_yes;
  exact = λ m f. call.w_exit ∙ claim.exact m f;
}

pub of_functions : Demand3 → PerformedDemand3
of_functions claim S G ok key = record {
  opening = λ M E rounds message challenges long. opening_performed S G M E rounds ((claim S G ok key).opening M E rounds message challenges long);
  extraction = λ C rounds E finals w tree room long. extraction_performed S G C rounds E finals w ((claim S G ok key).extraction C rounds E finals w tree room long);
}

-- demand 3, of the functions
pub performed_demand3 : PerformedDemand3
performed_demand3 = of_functions demand3
