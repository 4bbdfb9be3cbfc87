-- Small cases of the calls on tables, each of which pins an order of refusals, a bound or what is left unchanged, in one table.
use mathlib.Core.Path.{◌≡◌, refl, sym, ap, ◌∙◌}
use mathlib.Core.Bool.{Bool, true, false, ◌&&◌, false≢true}
use mathlib.Core.List.{List, [], ◌∷◌, ◌++◌, map}
use Prim.Native.Nat.{ℕ, ◌+◌, ◌*◌, ◌<◌}
use native.Mathlib.Omega.{arith}
use borrow.Author.Tests.{eq-eqb}
use lib.Dec.{ltb}
use lib.ListN.{length, get_or, replicate, length-replicate}
use lib.IntN.{ℤ, pos, negsuc}
use Rattle.protocol.specs.declared.Settings.{Settings}
use Rattle.protocol.specs.declared.Session.{Session}
use Rattle.protocol.specs.Answers.{Moved}
use Rattle.protocol.specs.Answers.{Verdict}
use Rattle.protocol.specs.Answers.Verdict.{Silent, Holds, Accepted, Rejected}
use Rattle.protocol.specs.Basic.{every, all, flat, first, unless}
use Rattle.protocol.specs.Element.{power, rotate, coefficients, value_row}
use Rattle.protocol.specs.Layout.{rows_width, key_cells, tree_round_cells, tree_challenges, leaf_cells}
use Rattle.protocol.specs.Settings.{settings_refusal, cells, has_length, all_below, residue_rows, exponents}
use Rattle.protocol.specs.Opening.{fold_message, message_after, key_after}
use Rattle.protocol.specs.Rows.{key_row, row_items, cause}
use Rattle.protocol.specs.Transcript.{accepted}
use Rattle.protocol.specs.Tree.{nodes, leaves, path, row_path, apart}
use Rattle.protocol.specs.Session.{blank, shut, start, round, end}
use Rattle.protocol.specs.Judge.{slack}
use Rattle.protocol.specs.Calls.{commit_refusal, commit_answer, round_refusal, fold_refusal, fold_message_exit, end_refusal, opening_answer, opening_rounds_exit, check_refusal}
use Rattle.protocol.specs.Calls.{judge_refusal, judge_answer, every_path, tree_tests, tree_refusal, extract_refusal, extract_exit}
use Rattle.protocol.proofs.Tests.{and_intro, every_at, all_replicate}
use Rattle.protocol.proofs.Reading.{flat-own, flat_ext}
use Rattle.protocol.proofs.Refusals.{first_fails, front-passes}
use Rattle.protocol.proofs.Compute.{computed}
use Rattle.protocol.proofs.Listing.{set, S₁, key₁, message₁, commitment₁, rounds₁, leaves₁, S₀, one_row}
use Rattle.protocol.proofs.Examples.{Example, agree, agreeing, number, as_number, cause_number, verdict_as_number}
use Rattle.protocol.proofs.Listed.{listed, commit-listed, start-listed, round-listed}

-- ---- the inputs

abbrev polynomial₁ : List (List ℕ)
polynomial₁ = (4 ∷ 1 ∷ []) ∷ (6 ∷ 0 ∷ []) ∷ (12 ∷ 1 ∷ []) ∷ []

-- four elements, to tell halves from neighbours
abbrev S₂ : Settings
S₂ = set 2 2 17 1

abbrev message₂ : List ℤ
message₂ = pos 1 ∷ pos 0 ∷ pos 0 ∷ pos 1 ∷ negsuc 0 ∷ pos 1 ∷ pos 1 ∷ pos 1 ∷ []

-- a record of the session over the example: rounds done, claim, challenges, closed
abbrev session₁ : ℕ → List ℕ → List ℕ → Bool → Session
session₁ done claims challenges closed = record { settings = S₁; done = done; claims = claims; challenges = challenges; closed = closed }

-- the session at its start, after its round, and the first with a challenge in a slot that is not used yet
abbrev fresh : Session
fresh = session₁ 0 (one_row 0 commitment₁) (replicate 8 0) false

abbrev open₁ : Session
open₁ = session₁ 1 (one_row 0 (9 ∷ 6 ∷ [])) (1 ∷ replicate 7 0) false

abbrev filled : Session
filled = session₁ 0 commitment₁ (replicate 7 0 ++ (3 ∷ [])) false

-- records at the end of a session whose claim, and whose last challenge, is out of range; both are closed and have too few rounds done
abbrev spoiled : Session
spoiled = session₁ 0 (9 ∷ 17 ∷ []) (4 ∷ replicate 7 0) true

abbrev overfull : Session
overfull = session₁ 0 (9 ∷ 6 ∷ []) (1 ∷ replicate 6 0 ++ (4 ∷ [])) true

-- a move's answer
abbrev moved : ℕ → Verdict → Session → Moved
moved number v next = record { refusal = number; verdict = v; next = next }

-- ---- the table

unfoldable pub traps : List Example
traps =
    -- settings: the order 3, 4, 5, 6, and the ends of each range
    number (settings_refusal (set 3 9 2 0)) 3
    ∷ number (settings_refusal (set 0 9 2 0)) 3
    -- 128 with the modulus 12289 alone, also where the other modulus is refused by 5; then the order goes on
    ∷ number (settings_refusal (set 128 8 12_289 127)) 0
    ∷ number (settings_refusal (set 128 9 12_289 1)) 4
    ∷ number (settings_refusal (set 128 0 12_287 1)) 3
    ∷ number (settings_refusal (set 128 0 12_288 1)) 3
    ∷ number (settings_refusal (set 128 0 24_578 1)) 3
    ∷ number (settings_refusal (set 128 0 2 1)) 3
    ∷ number (settings_refusal (set 256 0 12_289 1)) 3
    ∷ number (settings_refusal (set 64 0 12_289 1)) 0
    ∷ number (settings_refusal (set 64 9 2 0)) 4
    ∷ number (settings_refusal (set 64 8 18 0)) 5
    ∷ number (settings_refusal (set 64 8 2_305_843_009_213_693_953 1)) 5
    ∷ number (settings_refusal (set 64 8 2_305_843_009_213_693_952 1)) 5
    ∷ number (settings_refusal (set 64 8 2_147_483_649 1)) 0
    ∷ number (settings_refusal (set 64 8 1 1)) 5
    ∷ number (settings_refusal (set 64 8 2_305_843_009_213_693_951 128)) 6
    ∷ number (settings_refusal (set 64 8 2_305_843_009_213_693_951 0)) 6
    ∷ number (settings_refusal (set 64 8 2_305_843_009_213_693_951 127)) 0
    ∷ number (settings_refusal (set 2 0 3 1)) 0
    -- refusal 9 with t at L and over L: commit and end test it, round and fold do not
    ∷ number (commit_refusal S₀ (3 ∷ 5 ∷ []) (pos 2 ∷ pos 0 ∷ [])) 9
    ∷ number (round_refusal S₀ 0 (3 ∷ 5 ∷ []) (pos 2 ∷ pos 0 ∷ [])) 11
    ∷ number (fold_refusal S₀ 0 0 (3 ∷ 5 ∷ []) (pos 2 ∷ pos 0 ∷ [])) 11
    ∷ number (end_refusal S₀ 0 (pos 2 ∷ pos 0 ∷ [])) 9
    ∷ number (fold_refusal S₁ 4_294_967_295 1 key₁ (pos 9 ∷ pos 9 ∷ pos 9 ∷ pos 9 ∷ [])) 11
    ∷ number (end_refusal S₁ 4_294_967_295 (pos 9 ∷ pos 9 ∷ pos 9 ∷ pos 9 ∷ [])) 11
    -- the end with t below L: 9 before 11
    ∷ number (end_refusal S₁ 0 (pos 2 ∷ pos 0 ∷ pos 0 ∷ pos 0 ∷ [])) 9
    ∷ number (end_refusal S₁ 0 message₁) 11
    -- 9 covers what is left, within ±2^t·B, and equality passes
    ∷ number (end_refusal S₁ 1 (pos 2 ∷ negsuc 1 ∷ pos 1_000_000_000 ∷ pos 0 ∷ [])) 0
    ∷ number (end_refusal S₁ 1 (pos 3 ∷ pos 0 ∷ pos 0 ∷ pos 0 ∷ [])) 9
    -- 8 covers all n elements; 10 before 11 and after 8 and 9; 7 first
    ∷ number (fold_refusal S₁ 1 0 (3 ∷ 5 ∷ 7 ∷ 17 ∷ []) message₁) 8
    ∷ number (fold_refusal S₁ 1 4 key₁ message₁) 10
    ∷ number (fold_refusal S₁ 0 4 key₁ (pos 2 ∷ pos 0 ∷ pos 0 ∷ pos 0 ∷ [])) 9
    ∷ number (fold_refusal S₁ 0 3 key₁ message₁) 0
    ∷ number (fold_refusal S₁ 1 4 (3 ∷ []) message₁) 7
    -- a fold takes halves and not neighbours, those of what is left, and leaves what stands behind
    ∷ record { given = fold_message S₂ 0 1 message₂; wanted = pos 0 ∷ negsuc 0 ∷ negsuc 0 ∷ pos 2 ∷ negsuc 0 ∷ pos 1 ∷ pos 1 ∷ pos 1 ∷ [] }
    ∷ record { given = message_after S₂ (1 ∷ 0 ∷ []) 2 message₂; wanted = negsuc 0 ∷ pos 1 ∷ negsuc 0 ∷ pos 2 ∷ negsuc 0 ∷ pos 1 ∷ pos 1 ∷ pos 1 ∷ [] }
    ∷ record { given = map pos (key_after S₁ (1 ∷ []) 1 key₁); wanted = pos 1 ∷ pos 12 ∷ pos 7 ∷ pos 2 ∷ [] }
    ∷ record { given = map pos (key_after S₂ (1 ∷ 0 ∷ []) 2 (1 ∷ 0 ∷ 0 ∷ 1 ∷ 16 ∷ 1 ∷ 1 ∷ 1 ∷ [])); wanted = pos 16 ∷ pos 1 ∷ pos 16 ∷ pos 2 ∷ pos 16 ∷ pos 1 ∷ pos 1 ∷ pos 1 ∷ [] }
    -- a refused fold leaves the table
    ∷ record { given = fold_message_exit S₁ 1 0 key₁ message₁; wanted = message₁ }
    -- the three zones of a rotation at d = 4: X^7·X^3 = X^2; X^0 and X^4 differ
    ∷ record { given = coefficients 4 (rotate 4 7 (power 4 3)); wanted = pos 0 ∷ pos 0 ∷ pos 1 ∷ pos 0 ∷ [] }
    ∷ record { given = coefficients 4 (power 4 4); wanted = negsuc 0 ∷ pos 0 ∷ pos 0 ∷ pos 0 ∷ [] }
    -- the whole opening: round elements and verdict; its bound is ±B over all n
    ∷ record { given = map pos (opening_rounds_exit S₁ key₁ message₁ (1 ∷ []) (replicate 6 0)); wanted = map pos rounds₁ }
    ∷ record { given = verdict_as_number (opening_answer S₁ key₁ message₁ (1 ∷ []) (replicate 6 0)).verdict ∷ []; wanted = pos 2 ∷ [] }
    ∷ number (opening_answer S₁ key₁ message₁ (4 ∷ []) (replicate 6 0)).refusal 10
    ∷ number (opening_answer S₁ key₁ message₁ (1 ∷ []) (replicate 5 0)).refusal 7
    -- a round that fails is named before the end; the check of a transcript
    ∷ record { given = cause_number (cause S₁ key₁ (record { commitment = 15 ∷ 5 ∷ []; rounds = rounds₁; challenges = 1 ∷ []; last = pos 3 ∷ pos 0 ∷ [] })); wanted = pos 1 ∷ [] }
    ∷ number (check_refusal S₁ (15 ∷ 17 ∷ []) key₁ rounds₁ (4 ∷ [])) 8
    ∷ number (check_refusal S₁ commitment₁ key₁ rounds₁ (4 ∷ [])) 10
    -- a session: a closed record of zeros answers 3
    ∷ number (round blank polynomial₁ 1).refusal 3
    -- 8 and 10 before 11; all eight challenges are tested
    ∷ number (round (session₁ 0 (17 ∷ 0 ∷ []) (replicate 8 0) true) polynomial₁ 1).refusal 8
    ∷ number (round (session₁ 1 commitment₁ (replicate 7 0 ++ (4 ∷ [])) true) polynomial₁ 1).refusal 10
    ∷ number (round (session₁ 4_294_967_295 commitment₁ (replicate 8 0) false) polynomial₁ 1).refusal 11
    -- an end before all rounds are done; 8 covers the key; a final coefficient of −2^31 is rejected and not refused
    ∷ number (end fresh (pos 1 ∷ pos 0 ∷ []) key₁).refusal 11
    ∷ number (end (session₁ 1 (9 ∷ 6 ∷ []) (1 ∷ replicate 7 0) false) (pos 1 ∷ pos 0 ∷ []) (3 ∷ 5 ∷ 7 ∷ 17 ∷ [])).refusal 8
    ∷ record { given = verdict_as_number (end open₁ (negsuc 2_147_483_647 ∷ pos 0 ∷ []) key₁).verdict ∷ []; wanted = pos 3 ∷ [] }
    -- the judge: 8 and 14 before 15, also where the slack shares a factor with q; −2^63 is beyond the bound and says no
    ∷ number (judge_refusal (set 64 4 17 5) (replicate 64 0) 0 (replicate 1024 0) (replicate 1024 (pos 0))) 14
    ∷ number (judge_refusal (set 64 4 17 5) (replicate 64 0) 17 (replicate 1024 0) (replicate 1024 (pos 0))) 14
    ∷ number (judge_refusal S₁ (15 ∷ 17 ∷ []) 17 key₁ message₁) 8
    ∷ number (judge_refusal S₁ commitment₁ 65_537 key₁ message₁) 15
    ∷ number (judge_refusal S₁ commitment₁ 0 key₁ message₁) 15
    -- a slack in its range that shares a factor with q is refused, be it a multiple of q, a divisor of it or neither; one that shares none is not
    ∷ number (judge_refusal S₁ commitment₁ 34 key₁ message₁) 15
    ∷ number (judge_refusal (set 2 1 15 1) (0 ∷ 0 ∷ []) 3 key₁ message₁) 15
    ∷ number (judge_refusal (set 2 1 15 1) (0 ∷ 0 ∷ []) 5 key₁ message₁) 15
    ∷ number (judge_refusal (set 2 1 15 1) (0 ∷ 0 ∷ []) 6 key₁ message₁) 15
    ∷ number (judge_refusal (set 2 1 15 1) (0 ∷ 0 ∷ []) 16 key₁ message₁) 0
    ∷ number (judge_refusal (set 2 1 2_305_843_009_213_693_951 1) (0 ∷ 0 ∷ []) 65_536 key₁ message₁) 0
    ∷ record { given = as_number (judge_answer S₁ (0 ∷ 0 ∷ []) 18 key₁ (negsuc 9_223_372_036_854_775_807 ∷ pos 0 ∷ pos 0 ∷ pos 0 ∷ [])).yes; wanted = pos 0 ∷ [] }
    -- the extractor's slack is 4^L, and the judge takes what it extracts
    ∷ number (slack (set 2 3 17 1)) 64
    ∷ record { given = as_number (judge_answer S₁ commitment₁ (slack S₁) key₁ (pos 4 ∷ negsuc 3 ∷ pos 4 ∷ pos 0 ∷ [])).yes; wanted = pos 1 ∷ [] }
    -- the judge's bound is 8·d²·B = 32, and equality passes: 32·(3 + 5X) is 11 + 7X modulo 17, and 33·(3 + 5X) is 14 + 12X
    ∷ record { given = as_number (judge_answer S₁ (11 ∷ 7 ∷ []) 1 key₁ (pos 32 ∷ pos 0 ∷ pos 0 ∷ pos 0 ∷ [])).yes; wanted = pos 1 ∷ [] }
    ∷ record { given = as_number (judge_answer S₁ (14 ∷ 12 ∷ []) 1 key₁ (pos 33 ∷ pos 0 ∷ pos 0 ∷ pos 0 ∷ [])).yes; wanted = pos 0 ∷ [] }
    -- the extractor: 12 before 13; 10 before 12; exponents 0 and d differ; too tall a leaf is a rejected path; a refusal leaves w
    ∷ number (extract_refusal S₁ commitment₁ key₁ rounds₁ (0 ∷ 1 ∷ 0 ∷ []) (replicate 6 (pos 0)) (replicate 4 (pos 0))) 12
    ∷ number (extract_refusal S₁ commitment₁ key₁ rounds₁ (0 ∷ 4 ∷ 0 ∷ []) (replicate 6 (pos 0)) (replicate 4 (pos 0))) 10
    ∷ number (extract_refusal S₁ commitment₁ key₁ rounds₁ (0 ∷ 1 ∷ 2 ∷ []) (pos 19 ∷ negsuc 0 ∷ pos 1 ∷ pos 0 ∷ pos 0 ∷ negsuc 0 ∷ []) (replicate 4 (pos 0))) 13
    ∷ record { given = extract_exit S₁ (15 ∷ 5 ∷ []) key₁ rounds₁ (0 ∷ 1 ∷ 2 ∷ []) leaves₁ (pos 7 ∷ pos 7 ∷ pos 7 ∷ pos 7 ∷ []); wanted = pos 7 ∷ pos 7 ∷ pos 7 ∷ pos 7 ∷ [] }
    -- leaves within n·B = 2 that make w as large as 4·d²·B = 16, half of the bound: the three μ are −2X, 4 and 2X
    ∷ record {
      given = extract_exit S₁ (0 ∷ 0 ∷ []) (replicate 4 0) (replicate 6 0) (1 ∷ 2 ∷ 3 ∷ []) (pos 2 ∷ pos 2 ∷ pos 2 ∷ pos 2 ∷ pos 2 ∷ negsuc 1 ∷ []) (replicate 4 (pos 0));
      wanted = pos 16 ∷ pos 8 ∷ pos 0 ∷ negsuc 7 ∷ [];
    }
    ∷ []

pub trapped : all agree traps ≡ true
unfolding computed agreeing traps
trapped = refl

-- ---- whole answers: elements by value, and the records that the moves hand back

pub record Answers : Type 0 where
  -- a refused call answers zeros, and a new element is 0 from d on
  pub no_commitment : (commit_answer S₁ key₁ (pos 2 ∷ pos 0 ∷ pos 0 ∷ pos 0 ∷ [])).commitment ≡ replicate rows_width 0
  pub commitment : (commit_answer S₁ key₁ message₁).commitment ≡ one_row 0 commitment₁
  -- a refused start; a start does not copy what stands from d on, or past the rows
  pub no_start : start S₁ (17 ∷ 4 ∷ []) ≡ record { refusal = 8; next = blank }
  pub start_short : start S₁ commitment₁ ≡ record { refusal = 0; next = fresh }
  pub start_long : start S₁ (one_row 99 commitment₁) ≡ record { refusal = 0; next = fresh }
  -- a closed record that is not all zeros answers 11, and is handed back unchanged
  pub closed_round : round (shut fresh) polynomial₁ 1 ≡ moved 11 Silent (shut fresh)
  -- a round sets the claim and one challenge, and keeps the other challenges
  pub next_round : round fresh polynomial₁ 1 ≡ moved 0 Holds open₁
  pub kept_challenge : round filled polynomial₁ 1 ≡ moved 0 Holds (session₁ 1 (one_row 0 (9 ∷ 6 ∷ [])) (1 ∷ replicate 6 0 ++ (3 ∷ [])) false)
  -- a rejected round sets closed and nothing else
  pub failed_round : round fresh ((5 ∷ 1 ∷ []) ∷ (6 ∷ 0 ∷ []) ∷ (12 ∷ 1 ∷ []) ∷ []) 1 ≡ moved 0 Rejected (shut fresh)
  -- an end tests its claim (8), then all eight challenges (10), both before 11; a refused end hands the record back
  pub spoiled_end : end spoiled (pos 1 ∷ pos 0 ∷ []) key₁ ≡ moved 8 Silent spoiled
  pub overfull_end : end overfull (pos 1 ∷ pos 0 ∷ []) key₁ ≡ moved 10 Silent overfull
  -- an acceptance closes the record
  pub accepted_end : end open₁ (pos 1 ∷ pos 0 ∷ []) key₁ ≡ moved 0 Accepted (shut open₁)

pub answered : Answers
unfolding computed listed
answered = record {
  no_commitment = refl;
  commitment = commit-listed S₁ key₁ message₁ refl refl;
  no_start = refl;
  start_short = start-listed S₁ commitment₁ refl refl;
  start_long = start-listed S₁ (one_row 99 commitment₁) refl refl;
  closed_round = refl;
  next_round = round-listed fresh polynomial₁ 1 refl refl refl;
  kept_challenge = round-listed filled polynomial₁ 1 refl refl refl;
  failed_round = refl;
  spoiled_end = refl;
  overfull_end = refl;
  accepted_end = refl;
}

-- ---- the extractor's 13 before 14, at the smallest tree that is beyond the growth limit. It has 7,680 round numbers: too many to take their one row out of them
-- by computing, so that it is the table itself is a law.

one_row_lem : (S : Settings) (n : ℕ) (t : List ℕ) → S.rows ≡ 1 → 0 < S.degree → length t ≡ n * S.degree → row_items S n t 0 ≡ t
unfolding row_items
one_row_lem S n t e p l = flat_ext S.degree n p (λ i k hi hk. ap (λ x. get_or t (x * S.degree + k) 0) (same i)) ∙ flat-own S.degree n t 0 p l
  where
    same : (i : ℕ) → S.rows * i + 0 ≡ i
    same i = ap (λ r. r * i + 0) e ∙ omega arith

first_path_rejected : (S : Settings) (C key rounds E : List ℕ) (finals : List ℤ) → S.rows ≡ 1 → 0 < S.degree → 0 < leaves S → length rounds ≡ tree_challenges S * S.degree
    → accepted S (key_row S key 0) (path S (value_row C 0) rounds E finals 0) ≡ false → every_path S C key rounds E finals ≡ false
first_path_rejected S C key rounds E finals e p some l rejected = go (every_path S C key rounds E finals) refl
  where
    rows : ℕ → ℕ → Bool
    rows j r = accepted S (key_row S key r) (row_path S C rounds E finals r j)

    go : (b : Bool) → every_path S C key rounds E finals ≡ b → b ≡ false
    go false t = refl
    go true t = absurd (false≢true (sym rejected ∙ ap (λ rs. accepted S (key_row S key 0) (path S (value_row C 0) rs E finals 0)) (sym (one_row_lem S (tree_challenges S) rounds e p l)) ∙ met))
      where
        met : accepted S (key_row S key 0) (path S (value_row C 0) (row_items S (tree_challenges S) rounds 0) E finals 0) ≡ true
        met = unfold every_path row_path in (every_at S.rows (rows 0) (every_at (leaves S) (λ j. every S.rows (rows j)) t 0 some) 0 (omega (arith, e)))

paths_first : (S : Settings) (C key rounds E : List ℕ) (finals w : List ℤ) → tree_refusal S C key rounds E finals w ≡ 0 → every_path S C key rounds E finals ≡ false
    → extract_refusal S C key rounds E finals w ≡ 13
unfolding tree_refusal extract_refusal
paths_first S C key rounds E finals w passed rejected = front-passes (tree_tests S C key rounds E finals w) _ passed ∙ first_fails 12 _ _ rejected

abbrev S₄ : Settings
S₄ = set 64 4 17 5

abbrev E₄ : List ℕ
E₄ = flat 3 40 (λ i k. k)

abbrev C₄ : List ℕ
C₄ = 1 ∷ replicate 63 0

abbrev key₄ : List ℕ
key₄ = replicate 1024 0

abbrev rounds₄ : List ℕ
rounds₄ = replicate 7680 0

abbrev finals₄ : List ℤ
finals₄ = replicate 5184 (pos 0)

abbrev w₄ : List ℤ
w₄ = replicate 1024 (pos 0)

all_pass : (settings : ℕ) (lengths residues exponents differences : Bool) → settings ≡ 0 → lengths ≡ true → residues ≡ true → exponents ≡ true → differences ≡ true
    → first (settings ∷ unless 7 lengths ∷ unless 8 residues ∷ unless 10 exponents ∷ unless 12 differences ∷ []) ≡ 0
unfolding first unless
all_pass settings lengths residues exponents differences s l r e d = λ i. first (s i ∷ unless 7 (l i) ∷ unless 8 (r i) ∷ unless 10 (e i) ∷ unless 12 (d i) ∷ [])

long {ℓ} : {A : Type ℓ} (m n : ℕ) (x : A) → n ≡ m → has_length m (replicate n x) ≡ true
unfolding has_length
long m n x e = eq-eqb _ m (length-replicate n x ∙ e)

-- a table of zeros has its length, and passes its test, by a law and not place by place
passed : tree_refusal S₄ C₄ key₄ rounds₄ E₄ finals₄ w₄ ≡ 0
unfolding tree_refusal
passed = all_pass _ _ _ _ _ allowed lengths residues exponents₄ differ
  where
    allowed : settings_refusal S₄ ≡ 0
    allowed = unfold computed in refl

    exponents₄ : exponents S₄ E₄ ≡ true
    exponents₄ = unfold computed in refl

    differ : every (nodes S₄) (apart E₄) ≡ true
    differ = unfold computed in refl

    challenges : has_length (tree_challenges S₄) E₄ ≡ true
    challenges = unfold computed in refl

    commitment : residue_rows S₄ C₄ ≡ true
    commitment = unfold computed in refl

    below : (n : ℕ) → all_below S₄ (replicate n 0) ≡ true
    below n = unfold all_below in all_replicate (λ x. ltb x 17) n 0 refl

    lengths : (has_length (key_cells S₄) key₄ && has_length (tree_round_cells S₄) rounds₄ && has_length (tree_challenges S₄) E₄ && has_length (leaf_cells S₄) finals₄ && has_length (cells S₄) w₄) ≡ true
    lengths =
        and_intro (and_intro (and_intro (and_intro
        (long {A = ℕ} (key_cells S₄) 1024 0 (unfold computed in refl))
        (long {A = ℕ} (tree_round_cells S₄) 7680 0 (unfold computed in refl)))
        challenges)
        (long (leaf_cells S₄) 5184 (pos 0) (unfold computed in refl)))
        (long (cells S₄) 1024 (pos 0) (unfold computed in refl))

    residues : (all_below S₄ key₄ && residue_rows S₄ C₄ && all_below S₄ rounds₄) ≡ true
    residues = and_intro (and_intro (below 1024) commitment) (below 7680)

pub paths_before-growth : extract_refusal S₄ C₄ key₄ rounds₄ E₄ finals₄ w₄ ≡ 13
paths_before-growth =
    paths_first S₄ C₄ key₄ rounds₄ E₄ finals₄ w₄ passed
    (first_path_rejected S₄ C₄ key₄ rounds₄ E₄ finals₄
    refl (omega arith) (unfold computed in (omega arith)) (length-replicate {A = ℕ} 7680 0 ∙ unfold computed in refl) (unfold computed in refl))
