-- Demand 3 for the exported calls, proved as a corollary of the one claim. What is added to `demand3`: the exported list of calls ends with slices that hold what
-- the list of calls by value ends with (Steps, Moves), refused exported calls change no slice (Refused), and a commitment in a slice is read row by row.
use mathlib.Core.Path.{◌≡◌, sym, ap, ◌∙◌, subst}
use mathlib.Core.List.{List, [], ◌∷◌}
use Prim.Native.Nat.{ℕ, ◌*◌, ◌<◌, ◌≤◌}
use lib.IntN.{ℤ, pos, ◌*ℤ◌}
use lib.ListN.{length, get_or, take, drop}
use lib.Seq.{get_or-drop}
use Rattle.protocol.specs.declared.Settings.{Settings}
use Rattle.protocol.specs.Answers.{Judged}
use Rattle.protocol.specs.Basic.{choose}
use Rattle.protocol.specs.Element.{modulo, value_row, times, residue}
use Rattle.protocol.specs.Layout.{key_cells, item_cells, polynomial_cells, polynomial_at, round_cells}
use Rattle.protocol.specs.Settings.{cells}
use Rattle.protocol.specs.Opening.{message_after}
use Rattle.protocol.specs.Rows.{key_row, together, keys_after, round_tables}
use Rattle.protocol.specs.Inputs.{Valid, Below, Within}
use Rattle.protocol.specs.Tree.{growth, growth_limit}
use Rattle.protocol.specs.Judge.{slack, scaled_commitment, Opens}
use Rattle.protocol.specs.Calls as Calls
use Rattle.protocol.specs.Session.{blank}
use Rattle.one_claim.specs.Demand3.{Step, moves, FullTree}
use Rattle.one_claim.specs.Demand3 as Demand
use Rattle.protocol.proofs.Tests.{and_intro, granted-zero}
use Rattle.protocol.proofs.Inputs.{degree_most}
use Rattle.protocol.proofs.Reading.{tabulate_at}
use Rattle.protocol.proofs.Rows.{at_rows_at}
use Rattle.protocol.proofs.Ranges.{last_length}
use Rattle.claims.proofs.Honest.{Given, opening-rounds}
use Rattle.claims.proofs.Refused as Steps
use Rattle.claims.proofs.Moves.{rounds_after}
use Rattle.claims.proofs.Moves as Value
use Rattle.claims.proofs.Demand3.{demand3}
use Rattle.protocol.specs.Session.{verdict_number}
use Rattle.slices.specs.Slices.{values_of}
use Rattle.slices.proofs.Laws.{whole_back}
use Rattle.exports.specs.Border as Border
use Rattle.exports.specs.Claim.{State, SameAsWhole, OpeningClaim, ExtractionClaim, ExportedDemand3}
use Rattle.exports.proofs.Steps.{own, fit, final, commitment-laid, round_exit_lem}
use Rattle.exports.proofs.Moves.{finished, round-part, run-finished}

-- a run with no refused call
steps-alone : (S : Settings) (E : List ℕ) (steps : List Step) (a : Demand.State) → Demand.Run S E steps a (Steps.runs S E steps a)
unfolding Steps.runs
steps-alone S E [] a = Demand.stop Demand.none
steps-alone S E (s ∷ steps) a = Demand.go Demand.none (steps-alone S E steps (Demand.step S E s a.held a.heard))

-- ---- an opening

module _ {S : Settings} {G : List ℕ} {M : List ℤ} {E : List ℕ} (ok : Given S G M E) (rounds C : List ℕ) (F : List ℤ)
    (rounds_long : length rounds ≡ round_cells S) (C_long : length C ≡ item_cells S) (F-long : length F ≡ S.degree) where
  whole : Demand.OpeningClaim S G M E rounds
  whole = (demand3 S G ok.settings ok.key).opening M E rounds ok.message ok.challenges rounds_long

  granted-opening : Border.open_number S G M E rounds C F ≡ 0
  unfolding Border.open_number
  granted-opening = own S ok.settings _ _ (and_intro (fit (item_cells S) C C_long) (fit S.degree F F-long)) ∙ whole.not_refused

  said : Border.open_verdict S G M E rounds C F ≡ 2
  unfolding Border.open_verdict verdict_number
  said = granted-zero _ _ _ granted-opening ∙ ap verdict_number whole.says_accepted

  -- the list of calls by value, with no refused call: what it ends with
  by_value : Demand.State
  by_value = Steps.runs S E (moves S.depth) (Demand.begun M G blank)

  value_same : Demand.SameAsWhole S G M E rounds by_value
  unfolding by_value
  value_same = whole.by_moves blank by_value (steps-alone S E (moves S.depth) (Demand.begun M G blank))

  -- the exported list of calls ends with the same, in slices
  same : (q : List ℕ) (st : State) → st ≡ finished S G M E q (final ok) → SameAsWhole S G M E rounds C F st
  unfolding finished by_value Value.finished Border.open_commitment_exit Border.open_rounds_exit Border.open_last_exit Border.open_message_exit Border.open_key_exit
  same q st e =
      let (p, f) = Value.run-finished ok blank by_value (steps-alone S E (moves S.depth) (Demand.begun M G blank)) in
      record {
        no_refusal = ap (λ (a : State). a.heard.numbers) e;
        same_commitment =
            ap (λ (a : State). a.held.commitment) e
            ∙ sym (granted-zero _ _ _ granted-opening ∙ ap (together S) (sym value_same.same_commitment ∙ ap (λ (a : Demand.State). a.heard.commitment) f) ∙ commitment-laid ok);
        same_rounds = ap (λ (a : State). a.heard.rounds) e ∙ sym (granted-zero _ _ _ granted-opening ∙ sym value_same.same_rounds ∙ ap (λ (a : Demand.State). a.heard.rounds) f);
        same_last =
            ap (λ (a : State). a.held.last) e
            ∙ sym (granted-zero _ _ _ granted-opening ∙ ap (take S.degree) (sym value_same.same_last ∙ ap (λ (a : Demand.State). a.heard.last) f)
            ∙ whole_back S.degree _ (last_length S (message_after S E S.depth M)));
        same_verdict = ap (λ (a : State). a.heard.verdict) e ∙ sym said;
        same_message = ap (λ (a : State). a.held.message) e ∙ sym (granted-zero _ _ _ granted-opening ∙ sym value_same.same_message ∙ ap (λ (a : Demand.State). a.held.message) f);
        same_key = ap (λ (a : State). a.held.key) e ∙ sym (granted-zero _ _ _ granted-opening ∙ sym value_same.same_key ∙ ap (λ (a : Demand.State). a.held.key) f);
        copy_kept = ap (λ (a : State). a.held.copy) e;
      }

  layout : (t : ℕ) → t < S.depth → (q : List ℕ) → length q ≡ polynomial_cells S
      → take (polynomial_cells S) (drop (polynomial_at S t) (Border.open_rounds_exit S G M E rounds C F)) ≡ Border.round_exit S t (keys_after S E t G) (message_after S E t M) q
  layout t l q long = ap (λ x. take (polynomial_cells S) (drop (polynomial_at S t) x)) table ∙ round-part ok t l ∙ sym (round_exit_lem ok t l q long)
    where
      table : Border.open_rounds_exit S G M E rounds C F ≡ rounds_after S G M E S.depth
      table = unfold Border.open_rounds_exit in unfold rounds_after in unfold round_tables in granted-zero _ _ _ granted-opening ∙ opening-rounds ok rounds rounds_long

  exported_opening : OpeningClaim S G M E rounds C F
  exported_opening = record {
    not_refused = granted-opening;
    says_accepted = said;
    one_layout = layout;
    by_moves = λ r c q f l st run. let (q', e) = run-finished ok r c q f l st run in same q' st e;
  }

-- ---- a tree

-- C is read row by row, of each the d places
module _ (S : Settings) (ok : Valid S) (C : List ℕ) (long : length C ≡ item_cells S) where
  place : (i k : ℕ) → i < S.rows → k < S.degree → get_or (value_row (values_of S C) i) k 0 ≡ get_or (drop (i * S.degree) C) k 0
  unfolding values_of
  place i k h l = at_rows_at S _ i k ok.rows_most_holds (degree_most S ok) h l ∙ tabulate_at S.degree _ 0 k l ∙ sym (get_or-drop (i * S.degree) C k 0)

  opens_same : (K : List ℕ) (c : ℕ) (w : List ℤ) (i : ℕ) → i < S.rows → Opens S K (value_row (values_of S C) i) c w → Opens S K (drop (i * S.degree) C) c w
  unfolding scaled_commitment times residue
  opens_same K c w i h o k l = ap (λ x. modulo S.modulus (pos c *ℤ pos x)) (sym (place i k h l)) ∙ o k l

  exported_extraction : (G : List ℕ) → Below S.modulus (key_cells S) G → (rounds E : List ℕ) (finals w : List ℤ)
      → FullTree S G (values_of S C) rounds E finals → growth S ≤ growth_limit → length w ≡ cells S → ExtractionClaim S G C rounds E finals w
  exported_extraction G key rounds E finals w tree room w_long = record {
    not_refused = not_refused;
    is_root_vector = vector ∙ claim.is_root_vector;
    in_bound = subst (Within (growth S) (cells S)) (sym vector) claim.in_bound;
    opens = λ i h. subst (Opens S (key_row S G i) (drop (i * S.degree) C) (slack S)) (sym vector) (opens_same (key_row S G i) (slack S) _ i h (claim.opens i h));
    judge_answers = ap (Border.judge_number S C (slack S) G) vector ∙ judge_granted;
    judge_says_yes = ap (Border.judge_yes S C (slack S) G) vector ∙ judge_yes_holds;
    exact = λ m folds. vector ∙ claim.exact m folds;
  }
    where
      claim : Demand.ExtractionClaim S G (values_of S C) rounds E finals w
      claim = (demand3 S G ok key).extraction (values_of S C) rounds E finals w tree room w_long

      not_refused : Border.extract_number S C G rounds E finals w ≡ 0
      not_refused = unfold Border.extract_number in own S ok _ _ (fit (item_cells S) C long) ∙ claim.not_refused

      vector : Border.extract_exit S C G rounds E finals w ≡ Calls.extract_exit S (values_of S C) G rounds E finals w
      vector = unfold Border.extract_exit in granted-zero _ _ _ not_refused

      judge_granted : Border.judge_number S C (slack S) G (Calls.extract_exit S (values_of S C) G rounds E finals w) ≡ 0
      judge_granted = unfold Border.judge_number in own S ok _ _ (fit (item_cells S) C long) ∙ ap (λ (x : Judged). x.refusal) claim.judge_says_yes

      judge_yes_holds : Border.judge_yes S C (slack S) G (Calls.extract_exit S (values_of S C) G rounds E finals w) ≡ 1
      judge_yes_holds = unfold Border.judge_yes in unfold choose in granted-zero _ _ _ judge_granted ∙ ap (λ (x : Judged). choose x.yes 1 0) claim.judge_says_yes

-- ---- the claim

pub exported_demand3 : ExportedDemand3
exported_demand3 S G ok key = record {
  opening = λ M E rounds C F message challenges rounds_long C_long F-long.
      exported_opening (record { settings = ok; key = key; message = message; challenges = challenges }) rounds C F rounds_long C_long F-long;
  extraction = λ C rounds E finals w C_long tree room w_long. exported_extraction S ok C C_long G key rounds E finals w tree room w_long;
}
