-- The worked examples of PROTOCOL 12 (in document 01 those marked M), in one table, and one proof over the table that the definitions give each.
-- A row of the table holds what the definitions give and what the page says, both as lists of numbers.
use mathlib.Core.Path.{◌≡◌, refl}
use mathlib.Core.Bool.{true}
use mathlib.Core.List.{List, [], ◌∷◌, map}
use Prim.Native.Nat.{ℕ}
use lib.ListN.{replicate, set as replaced}
use lib.IntN.{ℤ, pos, negsuc}
use Rattle.protocol.specs.Basic.{all}
use Rattle.protocol.specs.Element.{power, product, plus, times, signed_at, coefficients, reduced}
use Rattle.protocol.specs.Opening.{commitment}
use Rattle.protocol.specs.Transcript.{Transcript, claim_after}
use Rattle.protocol.specs.Rows.{key_row, row_of, transcripts_of, cause}
use Rattle.protocol.specs.Tree.{s, root_vector, growth_allowed}
use Rattle.protocol.specs.Judge.{opens}
use Rattle.protocol.specs.Calls.{opening_answer, judge_refusal, judge_answer, extract_refusal, extract_exit}
use Rattle.protocol.specs.HonestTree.{honest_table, honest_finals}
use Rattle.protocol.proofs.Compute.{computed}
use Rattle.protocol.proofs.Listing.{set, S₁, key₁, message₁, commitment₁, rounds₁, leaves₁, S₀, Sʷ, keyʷ, two_rows, commitmentʷ, roundsʷ}
use Rattle.protocol.proofs.Examples.{Example, agree, agreeing, as_number, cause_number, verdict_as_number}

-- ---- the inputs

abbrev T₁ : Transcript
T₁ = transcripts_of S₁ key₁ message₁ (1 ∷ [])

-- the listing's transcript with another final element
abbrev ending₁ : List ℤ → Transcript
ending₁ f = record { commitment = 15 ∷ 4 ∷ []; rounds = rounds₁; challenges = 1 ∷ []; last = f }

abbrev w₁ : List ℤ
w₁ = pos 0 ∷ pos 0 ∷ pos 0 ∷ pos 0 ∷ []

abbrev message₀ : List ℤ
message₀ = pos 1 ∷ negsuc 0 ∷ []

abbrev Tʷ : Transcript
Tʷ = transcripts_of Sʷ keyʷ message₁ (1 ∷ [])

-- the transcript of two rows with another commitment, other round elements or another final element
abbrev changedʷ : List ℕ → List ℕ → List ℤ → Transcript
changedʷ C rounds f = record { commitment = C; rounds = rounds; challenges = 1 ∷ []; last = f }

-- ---- the table

unfoldable pub examples : List Example
examples =
    -- PROTOCOL 12.1: commitment, round elements, last claim
    record { given = map pos T₁.commitment; wanted = pos 15 ∷ pos 4 ∷ [] }
    ∷ record { given = map pos T₁.rounds; wanted = pos 4 ∷ pos 1 ∷ pos 6 ∷ pos 0 ∷ pos 12 ∷ pos 1 ∷ [] }
    ∷ record { given = map pos (claim_after S₁ (row_of S₁ T₁ 0) 1); wanted = pos 9 ∷ pos 6 ∷ [] }
    ∷ record { given = T₁.last; wanted = pos 1 ∷ pos 0 ∷ [] }
    ∷ record { given = cause_number (cause S₁ key₁ T₁); wanted = pos 0 ∷ [] }
    -- PROTOCOL 12.1: the two other final elements, and why each is rejected
    ∷ record { given = cause_number (cause S₁ key₁ (ending₁ (pos 2 ∷ pos 0 ∷ []))); wanted = pos 101 ∷ [] }
    ∷ record { given = cause_number (cause S₁ key₁ (ending₁ (pos 3 ∷ pos 0 ∷ []))); wanted = pos 100 ∷ [] }
    -- PROTOCOL 12.6: s of two pairs, and a product that passes X^d
    ∷ record { given = coefficients 2 (s 2 0 1); wanted = pos 1 ∷ pos 1 ∷ [] }
    ∷ record { given = coefficients 4 (s 4 0 2); wanted = pos 1 ∷ pos 0 ∷ pos 1 ∷ pos 0 ∷ [] }
    ∷ record { given = coefficients 4 (product 4 (power 4 3) (power 4 1)); wanted = negsuc 0 ∷ pos 0 ∷ pos 0 ∷ pos 0 ∷ [] }
    -- these leaves, and the listing's round at the root, are what honest answers give
    ∷ record { given = map pos (honest_table S₁ (0 ∷ 1 ∷ 2 ∷ []) key₁ message₁); wanted = map pos rounds₁ }
    ∷ record { given = honest_finals S₁ (0 ∷ 1 ∷ 2 ∷ []) message₁; wanted = leaves₁ }
    -- PROTOCOL 12.3: w, as the root vector, and as what the call leaves
    ∷ record { given = root_vector S₁ (0 ∷ 1 ∷ 2 ∷ []) leaves₁; wanted = pos 4 ∷ negsuc 3 ∷ pos 4 ∷ pos 0 ∷ [] }
    -- the same w from the folds by 0, 1 and 3, where no child's weight is zero (of 0, 1 and 2 the second's is)
    ∷ record { given = root_vector S₁ (0 ∷ 1 ∷ 3 ∷ []) (pos 2 ∷ negsuc 0 ∷ pos 1 ∷ pos 0 ∷ pos 1 ∷ negsuc 1 ∷ []); wanted = pos 4 ∷ negsuc 3 ∷ pos 4 ∷ pos 0 ∷ [] }
    ∷ record { given = extract_exit S₁ commitment₁ key₁ T₁.rounds (0 ∷ 1 ∷ 2 ∷ []) leaves₁ w₁; wanted = pos 4 ∷ negsuc 3 ∷ pos 4 ∷ pos 0 ∷ [] }
    ∷ record { given = pos (extract_refusal S₁ commitment₁ key₁ T₁.rounds (0 ∷ 1 ∷ 2 ∷ []) leaves₁ w₁) ∷ []; wanted = pos 0 ∷ [] }
    -- PROTOCOL 12.5: depth 0
    ∷ record { given = map pos (commitment S₀ (3 ∷ 5 ∷ []) message₀); wanted = pos 8 ∷ pos 2 ∷ [] }
    ∷ record { given = extract_exit S₀ (8 ∷ 2 ∷ []) (3 ∷ 5 ∷ []) [] [] message₀ (pos 0 ∷ pos 0 ∷ []); wanted = message₀ }
    -- PROTOCOL 12.6: growth on both sides of its limit
    ∷ record { given = as_number (growth_allowed (set 32 4 17 127)); wanted = pos 1 ∷ [] }
    ∷ record { given = as_number (growth_allowed (set 64 4 17 4)); wanted = pos 1 ∷ [] }
    ∷ record { given = as_number (growth_allowed (set 64 4 17 5)); wanted = pos 0 ∷ [] }
    ∷ record { given = as_number (growth_allowed (set 16 5 17 127)); wanted = pos 1 ∷ [] }
    ∷ record { given = as_number (growth_allowed (set 128 3 12_289 127)); wanted = pos 1 ∷ [] }
    ∷ record { given = as_number (growth_allowed (set 128 4 12_289 1)); wanted = pos 0 ∷ [] }
    -- the same as the judge's refusal 14, at tables of zeros; as the judge's and the extractor's at every full tree, in claims/proofs/GrowthCases
    ∷ record { given = pos (judge_refusal (set 32 4 17 127) (replicate 32 0) 256 (replicate 512 0) (replicate 512 (pos 0))) ∷ []; wanted = pos 0 ∷ [] }
    ∷ record { given = pos (judge_refusal (set 64 4 17 4) (replicate 64 0) 256 (replicate 1024 0) (replicate 1024 (pos 0))) ∷ []; wanted = pos 0 ∷ [] }
    ∷ record { given = pos (judge_refusal (set 64 4 17 5) (replicate 64 0) 256 (replicate 1024 0) (replicate 1024 (pos 0))) ∷ []; wanted = pos 14 ∷ [] }
    ∷ record { given = pos (judge_refusal (set 16 5 17 127) (replicate 16 0) 1024 (replicate 512 0) (replicate 512 (pos 0))) ∷ []; wanted = pos 0 ∷ [] }
    -- PROTOCOL 12.6: a slack that shares a factor with q, and w all zeros: the equation holds, and the judge refuses and says nothing
    ∷ record { given = as_number (opens S₁ key₁ T₁.commitment 17 w₁); wanted = pos 1 ∷ [] }
    ∷ record { given = pos (judge_refusal S₁ commitment₁ 17 key₁ w₁) ∷ []; wanted = pos 15 ∷ [] }
    ∷ record { given = as_number (judge_answer S₁ commitment₁ 17 key₁ w₁).yes; wanted = pos 0 ∷ [] }
    -- PROTOCOL 12.7: two rows, one of weights; its element of the commitment is the weighted sum of the message, and the round elements stand item by item
    ∷ record { given = map pos Tʷ.commitment; wanted = pos 15 ∷ pos 4 ∷ pos 12 ∷ pos 12 ∷ [] }
    ∷ record {
      given = map pos (commitment Sʷ (key_row Sʷ keyʷ 1) message₁);
      wanted = map pos (reduced 17 2 (plus (times (pos 5) (signed_at 2 message₁ 0)) (times (pos 7) (signed_at 2 message₁ 1))));
    }
    ∷ record { given = map pos Tʷ.rounds; wanted = map pos roundsʷ }
    ∷ record { given = map pos (claim_after Sʷ (row_of Sʷ Tʷ 0) 1); wanted = pos 9 ∷ pos 6 ∷ [] }
    ∷ record { given = map pos (claim_after Sʷ (row_of Sʷ Tʷ 1) 1); wanted = pos 11 ∷ pos 12 ∷ [] }
    ∷ record { given = Tʷ.last; wanted = pos 1 ∷ pos 0 ∷ [] }
    ∷ record { given = cause_number (cause Sʷ keyʷ Tʷ); wanted = pos 0 ∷ [] }
    ∷ record { given = verdict_as_number (opening_answer Sʷ keyʷ message₁ (1 ∷ []) (replicate 12 0)).verdict ∷ []; wanted = pos 2 ∷ [] }
    -- a change in its row of weights, in turn in the commitment, in c0 and in c1 of the round, and in the key; and one in the final element, which fails both at the end
    ∷ record { given = cause_number (cause Sʷ keyʷ (changedʷ (15 ∷ 4 ∷ 12 ∷ 13 ∷ []) roundsʷ (pos 1 ∷ pos 0 ∷ []))); wanted = pos 1 ∷ [] }
    ∷ record { given = cause_number (cause Sʷ keyʷ (changedʷ Tʷ.commitment (replaced roundsʷ 2 12) (pos 1 ∷ pos 0 ∷ []))); wanted = pos 1 ∷ [] }
    ∷ record { given = cause_number (cause Sʷ keyʷ (changedʷ Tʷ.commitment (replaced roundsʷ 6 7) (pos 1 ∷ pos 0 ∷ []))); wanted = pos 101 ∷ [] }
    ∷ record { given = cause_number (cause Sʷ (replaced keyʷ 4 6) Tʷ); wanted = pos 101 ∷ [] }
    ∷ record { given = cause_number (cause Sʷ keyʷ (changedʷ Tʷ.commitment roundsʷ (pos 3 ∷ pos 0 ∷ []))); wanted = pos 100 ∷ [] }
    -- a tree of two rows: one w opens both, and the judge asks both
    ∷ record { given = map pos (honest_table Sʷ (0 ∷ 1 ∷ 2 ∷ []) keyʷ message₁); wanted = map pos roundsʷ }
    ∷ record { given = extract_exit Sʷ commitmentʷ keyʷ roundsʷ (0 ∷ 1 ∷ 2 ∷ []) leaves₁ w₁; wanted = pos 4 ∷ negsuc 3 ∷ pos 4 ∷ pos 0 ∷ [] }
    ∷ record { given = as_number (judge_answer Sʷ commitmentʷ 4 keyʷ (pos 4 ∷ negsuc 3 ∷ pos 4 ∷ pos 0 ∷ [])).yes; wanted = pos 1 ∷ [] }
    ∷ record { given = as_number (judge_answer Sʷ (two_rows 0 (15 ∷ 4 ∷ []) (12 ∷ 13 ∷ [])) 4 keyʷ (pos 4 ∷ negsuc 3 ∷ pos 4 ∷ pos 0 ∷ [])).yes; wanted = pos 0 ∷ [] }
    ∷ []

-- the definitions give each
pub known : all agree examples ≡ true
unfolding computed agreeing examples
known = refl
