-- Small cases of several rows, in one table: where 16 stands, what is passed by value past the rows, the two rows of PROTOCOL 12.7 in every call.
use mathlib.Core.Path.{◌≡◌, refl}
use mathlib.Core.Bool.{true, false}
use mathlib.Core.List.{List, [], ◌∷◌, ◌++◌, map}
use Prim.Native.Nat.{ℕ}
use lib.ListN.{replicate, set as replaced}
use lib.IntN.{pos}
use Rattle.protocol.specs.declared.Session.{Session}
use Rattle.protocol.specs.Answers.Verdict.{Holds, Rejected}
use Rattle.protocol.specs.Basic.{all}
use Rattle.protocol.specs.Settings.{settings_refusal}
use Rattle.protocol.specs.Rows.{cause}
use Rattle.protocol.specs.Session.{blank, shut, start, round, end}
use Rattle.protocol.specs.Calls.{commit_refusal, commit_answer, round_refusal, round_answer, fold_refusal, fold_key_exit, end_refusal, opening_refusal, opening_answer, opening_key_exit}
use Rattle.protocol.specs.Calls.{opening_rounds_exit, check_refusal, check_number, judge_refusal, extract_refusal}
use Rattle.protocol.proofs.Compute.{computed}
use Rattle.protocol.proofs.Listing.{set_rows, S₁, key₁, message₁, commitment₁, one_row, rounds₁, leaves₁, Sʷ, keyʷ, two_rows, commitmentʷ, roundsʷ}
use Rattle.protocol.proofs.Examples.{Example, agree, agreeing, number, cause_number, verdict_as_number}
use Rattle.protocol.proofs.Listed.{listed, commit-listed, polynomial-listed, start-listed, round-listed}

-- ---- the inputs

-- c0, c1 and c2 of two rows, c0 of the second being given, and x in all other places
abbrev polynomialʷ : ℕ → List ℕ → List (List ℕ)
polynomialʷ x a = two_rows x (4 ∷ 1 ∷ []) a ∷ two_rows x (6 ∷ 0 ∷ []) (6 ∷ 5 ∷ []) ∷ two_rows x (12 ∷ 1 ∷ []) (12 ∷ 0 ∷ []) ∷ []

-- a session of two rows at its start, and after its round
abbrev freshʷ : Session
freshʷ = record { settings = Sʷ; done = 0; claims = commitmentʷ; challenges = replicate 8 0; closed = false }

abbrev openʷ : Session
openʷ = record { settings = Sʷ; done = 1; claims = two_rows 0 (9 ∷ 6 ∷ []) (11 ∷ 12 ∷ []); challenges = 1 ∷ replicate 7 0; closed = false }

-- ---- the table

unfoldable pub row_traps : List Example
row_traps =
    -- 16 after 6 and before 7, in every call and record; the ends of its range
    number (settings_refusal (set_rows 2 1 17 0 0)) 6
    ∷ number (settings_refusal (set_rows 2 1 17 1 0)) 16
    ∷ number (settings_refusal (set_rows 2 1 17 1 1)) 0
    ∷ number (settings_refusal (set_rows 2 1 17 1 4)) 0
    ∷ number (settings_refusal (set_rows 2 1 17 1 5)) 16
    ∷ number (settings_refusal (set_rows 2 1 17 1 4_294_967_295)) 16
    ∷ number (commit_refusal (set_rows 2 1 17 1 0) [] message₁) 16
    ∷ number (commit_refusal (set_rows 2 1 17 1 5) key₁ message₁) 16
    ∷ number (commit_refusal (set_rows 2 1 17 1 4) key₁ message₁) 7
    ∷ number (round_refusal (set_rows 2 1 17 1 5) 9 key₁ message₁) 16
    ∷ number (fold_refusal (set_rows 2 1 17 1 0) 9 9 key₁ message₁) 16
    ∷ number (end_refusal (set_rows 2 1 17 1 5) 9 []) 16
    ∷ number (opening_refusal (set_rows 2 1 17 1 0) key₁ message₁ (1 ∷ []) []) 16
    ∷ number (check_refusal (set_rows 2 1 17 1 5) commitment₁ key₁ rounds₁ (1 ∷ [])) 16
    ∷ number (judge_refusal (set_rows 2 1 17 1 0) commitment₁ 0 key₁ message₁) 16
    ∷ number (extract_refusal (set_rows 2 1 17 1 5) commitment₁ key₁ rounds₁ (0 ∷ 1 ∷ 2 ∷ []) leaves₁ []) 16
    ∷ number (round (record { settings = set_rows 2 1 17 1 5; done = 9; claims = []; challenges = replicate 8 9; closed = true }) [] 9).refusal 16
    ∷ number (end (record { settings = set_rows 2 1 17 1 0; done = 9; claims = []; challenges = replicate 8 9; closed = true }) [] []).refusal 16
    -- with two rows: each row folds in its own places, and what stands behind in it stays
    ∷ record { given = map pos (fold_key_exit Sʷ 0 1 keyʷ message₁); wanted = map pos (1 ∷ 12 ∷ 7 ∷ 2 ∷ 5 ∷ 7 ∷ 7 ∷ 0 ∷ []) }
    ∷ record { given = map pos (opening_key_exit Sʷ keyʷ message₁ (1 ∷ []) (replicate 12 0)); wanted = map pos (1 ∷ 12 ∷ 7 ∷ 2 ∷ 5 ∷ 7 ∷ 7 ∷ 0 ∷ []) }
    ∷ record { given = map pos (opening_rounds_exit Sʷ keyʷ message₁ (1 ∷ []) (replicate 12 0)); wanted = map pos roundsʷ }
    ∷ number (opening_answer Sʷ keyʷ message₁ (1 ∷ []) (replicate 6 0)).refusal 7
    ∷ number (fold_refusal Sʷ 0 1 (3 ∷ 5 ∷ 7 ∷ 2 ∷ 5 ∷ 0 ∷ 7 ∷ 17 ∷ []) message₁) 8
    -- the cause is that of the earliest round over all rows: the first row fails in the second round, the second row in the first
    ∷ record {
      given = cause_number (cause (set_rows 2 2 17 1 2) (replicate 16 0) (record {
        commitment = replicate 4 0;
        rounds = (0 ∷ 0 ∷ 1 ∷ replicate 9 0) ++ (1 ∷ replicate 11 0);
        challenges = 0 ∷ 0 ∷ [];
        last = pos 0 ∷ pos 0 ∷ [];
      }));
      wanted = pos 1 ∷ [];
    }
    -- a transcript of two rows, and one whose second row is changed; what is passed by value past the rows, or from d on, is not looked at
    ∷ number (check_number Sʷ commitmentʷ (pos 1 ∷ pos 0 ∷ []) keyʷ roundsʷ (1 ∷ [])) 2
    ∷ number (check_number Sʷ (two_rows 0 (15 ∷ 4 ∷ []) (12 ∷ 13 ∷ [])) (pos 1 ∷ pos 0 ∷ []) keyʷ roundsʷ (1 ∷ [])) 3
    ∷ number (check_number Sʷ (two_rows 99 (15 ∷ 4 ∷ []) (12 ∷ 12 ∷ [])) (pos 1 ∷ pos 0 ∷ []) keyʷ roundsʷ (1 ∷ [])) 2
    ∷ number (check_refusal Sʷ (two_rows 0 (15 ∷ 4 ∷ []) (12 ∷ 17 ∷ [])) keyʷ roundsʷ (1 ∷ [])) 8
    ∷ number (judge_refusal S₁ (one_row 99 (15 ∷ 4 ∷ [])) 4 key₁ message₁) 0
    ∷ number (judge_refusal Sʷ (one_row 99 (15 ∷ 4 ∷ [])) 4 keyʷ message₁) 8
    ∷ number (extract_refusal S₁ (one_row 99 (15 ∷ 4 ∷ [])) key₁ rounds₁ (0 ∷ 1 ∷ 2 ∷ []) leaves₁ (replicate 4 (pos 0))) 0
    -- a session of two rows: 8 in the second row alone, an end that asks both rows
    ∷ number (round freshʷ (polynomialʷ 0 (11 ∷ 17 ∷ [])) 1).refusal 8
    ∷ record { given = verdict_as_number (end openʷ (pos 1 ∷ pos 0 ∷ []) keyʷ).verdict ∷ []; wanted = pos 2 ∷ [] }
    ∷ record { given = verdict_as_number (end openʷ (pos 1 ∷ pos 0 ∷ []) (replaced keyʷ 4 6)).verdict ∷ []; wanted = pos 3 ∷ [] }
    ∷ number (end openʷ (pos 1 ∷ pos 0 ∷ []) key₁).refusal 7
    -- a tree of two rows: a path that is rejected in the second row alone, by the round's equation and by the last one; the judge that takes what is extracted
    ∷ number (extract_refusal Sʷ commitmentʷ keyʷ roundsʷ (0 ∷ 1 ∷ 2 ∷ []) leaves₁ (replicate 4 (pos 0))) 0
    ∷ number (extract_refusal Sʷ commitmentʷ keyʷ (replaced roundsʷ 2 12) (0 ∷ 1 ∷ 2 ∷ []) leaves₁ (replicate 4 (pos 0))) 13
    ∷ number (extract_refusal Sʷ commitmentʷ (replaced keyʷ 4 6) roundsʷ (0 ∷ 1 ∷ 2 ∷ []) leaves₁ (replicate 4 (pos 0))) 13
    ∷ []

pub row_trapped : all agree row_traps ≡ true
unfolding computed agreeing row_traps
row_trapped = refl

-- ---- whole answers: elements by value, and the records that the moves hand back

pub record Answers : Type 0 where
  -- 16 in a start
  pub no_start : start (set_rows 2 1 17 1 0) [] ≡ record { refusal = 16; next = blank }
  -- with two rows: an element of each and zeros past them
  pub commitment : (commit_answer Sʷ keyʷ message₁).commitment ≡ commitmentʷ
  pub polynomial : (round_answer Sʷ 0 keyʷ message₁).elements ≡ polynomialʷ 0 (11 ∷ 6 ∷ [])
  pub start_rows_holds : start Sʷ commitmentʷ ≡ record { refusal = 0; next = freshʷ }
  -- the claims of both rows, and nothing of what stands past them
  pub next_round : round freshʷ (polynomialʷ 99 (11 ∷ 6 ∷ [])) 1 ≡ record { refusal = 0; verdict = Holds; next = openʷ }
  -- a polynomial that fails in the second row alone
  pub failed_round : round freshʷ (polynomialʷ 0 (12 ∷ 6 ∷ [])) 1 ≡ record { refusal = 0; verdict = Rejected; next = shut freshʷ }

pub answered : Answers
unfolding computed listed
answered = record {
  no_start = refl;
  commitment = commit-listed Sʷ keyʷ message₁ refl refl;
  polynomial = polynomial-listed Sʷ 0 keyʷ message₁ refl refl refl refl;
  start_rows_holds = start-listed Sʷ commitmentʷ refl refl;
  next_round = round-listed freshʷ (polynomialʷ 99 (11 ∷ 6 ∷ [])) 1 refl refl refl;
  failed_round = refl;
}
