-- Demand 3 put to use at a tree of the worked example with two rows (PROTOCOL 12.7): whoever has the claim gets what a caller of the extractor relies on. Every field of the claim is used.
--   extraction_gives    from the claim: a tree of folds of a message beyond B is not refused, and w is its root vector, within its bound, opens 4 times the commitment in every row, satisfies the judge,
--                       and is exactly 4 times that message
--   functions_give      the same from the claim of the functions, over the values that a call of the extractor and one of the judge gave
use mathlib.Core.Path.{◌≡◌, refl}
use mathlib.Core.Logic.{◌≢◌}
use mathlib.Core.Bool.{Bool, true}
use mathlib.Core.List.{List, [], ◌∷◌}
use Prim.Native.Nat.{ℕ, zero, suc, ◌<◌, ◌≤◌}
use native.Mathlib.Omega.{arith}
use lib.ListN.{replicate}
use lib.IntN.{ℤ, pos}
use Rattle.protocol.specs.Answers.{Judged}
use Rattle.protocol.specs.Basic.{every}
use Rattle.protocol.specs.Element.{value_row}
use Rattle.protocol.specs.Transcript.{accepted, Accepted}
use Rattle.protocol.specs.Rows.{key_row}
use Rattle.protocol.specs.Tree.{challenge, row_path, leaf, fold_to, leaves, nodes, root_vector, growth, growth_limit}
use Rattle.protocol.specs.Judge.{Opens}
use Rattle.protocol.specs.Calls.{extract_refusal, extract_exit, judge_answer}
use Rattle.protocol.specs.Inputs.{Within}
use Rattle.protocol.specs.Promises.{Extracted}
use Rattle.one_claim.specs.Demand3.{FullTree, FoldsOf, ExtractionClaim, Demand3}
use Rattle.one_claim.specs.Performed.{PerformedDemand3}
use Rattle.protocol.proofs.Compute.{computed}
use Rattle.protocol.proofs.Listing.{Sʷ, keyʷ, two_rows}
use Rattle.protocol.proofs.Tests.{every_at}
use Rattle.protocol.proofs.Inputs.{tested-below}
use Rattle.protocol.proofs.Acceptance.{accepted_states}
use Rattle.one_claim.proofs.Trial.{validʷ, key_below}

-- m = 2 and 0 is beyond B = 1, and its three folds are all 2: within n·B
abbrev wide : List ℤ
wide = pos 2 ∷ pos 0 ∷ pos 0 ∷ pos 0 ∷ []

abbrev finals₁ : List ℤ
finals₁ = pos 2 ∷ pos 0 ∷ pos 2 ∷ pos 0 ∷ pos 2 ∷ pos 0 ∷ []

abbrev Cʷ : List ℕ
Cʷ = two_rows 0 (6 ∷ 10 ∷ []) (10 ∷ 0 ∷ [])

abbrev sentʷ : List ℕ
sentʷ = 3 ∷ 5 ∷ 5 ∷ 0 ∷ 7 ∷ 2 ∷ 7 ∷ 0 ∷ replicate 4 0

abbrev E₁ : List ℕ
E₁ = 0 ∷ 1 ∷ 2 ∷ []

path-accepted : (r : ℕ) → r < Sʷ.rows → (j : ℕ) → j < leaves Sʷ → Accepted Sʷ (key_row Sʷ keyʷ r) (row_path Sʷ Cʷ sentʷ E₁ finals₁ r j)
path-accepted r g j h = accepted_states Sʷ (key_row Sʷ keyʷ r) _ (every_at Sʷ.rows (met j) (every_at (leaves Sʷ) (λ j. every Sʷ.rows (met j)) (unfold computed in refl) j h) r g)
  where
    met : ℕ → ℕ → Bool
    met j r = accepted Sʷ (key_row Sʷ keyʷ r) (row_path Sʷ Cʷ sentʷ E₁ finals₁ r j)

challenges-differ : (k : ℕ) → k < nodes Sʷ → (challenge E₁ k 0 ≢ challenge E₁ k 1) × (challenge E₁ k 0 ≢ challenge E₁ k 2) × (challenge E₁ k 1 ≢ challenge E₁ k 2)
unfolding computed
challenges-differ zero h = (λ e. omega arith, λ e. omega arith, λ e. omega arith)
challenges-differ (suc k) h = absurd (omega arith)

treeʷ : FullTree Sʷ keyʷ Cʷ sentʷ E₁ finals₁
treeʷ = record {
  rounds_below = tested-below 17 _ sentʷ (unfold computed in refl) (unfold computed in refl);
  challenges_below = tested-below 4 _ E₁ (unfold computed in refl) (unfold computed in refl);
  finals_long = unfold computed in refl;
  different = challenges-differ;
  accepted = path-accepted;
}

folds₁ : FoldsOf Sʷ E₁ finals₁ wide
folds₁ = record { long = unfold computed in refl; each = each }
  where
    each : (j : ℕ) → j < leaves Sʷ → fold_to Sʷ E₁ j wide ≡ leaf Sʷ finals₁ j
    each zero h = unfold computed in refl
    each (suc zero) h = unfold computed in refl
    each (suc (suc zero)) h = unfold computed in refl
    each (suc (suc (suc j))) h = absurd (let l : suc (suc (suc j)) < 3 = unfold computed in h in omega arith)

-- ---- what the claim gives, whatever stood in w

abbrev w₁ : List ℤ
w₁ = replicate 4 (pos 9)

abbrev exit₁ : List ℤ
exit₁ = extract_exit Sʷ Cʷ keyʷ sentʷ E₁ finals₁ w₁

room : growth Sʷ ≤ growth_limit
room = unfold computed in omega arith

extractedʷ : Demand3 → ExtractionClaim Sʷ keyʷ Cʷ sentʷ E₁ finals₁ w₁
extractedʷ claim = (claim Sʷ keyʷ validʷ key_below).extraction Cʷ sentʷ E₁ finals₁ w₁ treeʷ room (unfold computed in refl)

pub record Given (w : List ℤ) : Type 0 where
  pub not_refused : extract_refusal Sʷ Cʷ keyʷ sentʷ E₁ finals₁ w₁ ≡ 0
  pub root_vector_holds : w ≡ root_vector Sʷ E₁ finals₁
  pub in_bound : Within 32 4 w
  pub opens : (r : ℕ) → r < 2 → Opens Sʷ (key_row Sʷ keyʷ r) (value_row Cʷ r) 4 w
  pub judged : judge_answer Sʷ Cʷ 4 keyʷ w ≡ record { refusal = 0; yes = true }
  pub exact : w ≡ pos 8 ∷ pos 0 ∷ pos 0 ∷ pos 0 ∷ []

pub extraction_gives : Demand3 → Given exit₁
unfolding computed
extraction_gives claim =
    let x = extractedʷ claim in
    record {
      not_refused = x.not_refused;
      root_vector_holds = x.is_root_vector;
      in_bound = x.in_bound;
      opens = x.opens;
      judged = x.judge_says_yes;
      exact = x.exact wide folds₁;
    }

module _ (claim : PerformedDemand3) (n : ℕ) (w' : List ℤ) (call : Extracted Sʷ Cʷ keyʷ sentʷ E₁ finals₁ w₁ n w') (j : Judged) (judge : j ≡ judge_answer Sʷ Cʷ 4 keyʷ w') where
  pub record Performed : Type 0 where
    pub not_refused : n ≡ 0
    pub in_bound : Within 32 4 w'
    pub opens : (r : ℕ) → r < 2 → Opens Sʷ (key_row Sʷ keyʷ r) (value_row Cʷ r) 4 w'
    pub judged : j ≡ record { refusal = 0; yes = true }
    pub exact : w' ≡ pos 8 ∷ pos 0 ∷ pos 0 ∷ pos 0 ∷ []

  pub functions_give : Performed
  unfolding computed
  functions_give =
      let x = (claim Sʷ keyʷ validʷ key_below).extraction Cʷ sentʷ E₁ finals₁ w₁ treeʷ room refl n w' call in
      record {
        not_refused = x.not_refused;
        in_bound = x.in_bound;
        opens = x.opens;
        judged = x.judge_says_yes j judge;
        exact = x.exact wide folds₁;
      }
