-- PROTOCOL 8: the calls on tables. For each call its refusal, its whole answer, and each lent table at exit.
-- (The session's moves are in Session, the calls on text in Text and Programs.)
-- A refusal is the first number of the call's own list whose test fails; all tests are over what was lent, and only that of 13 needs the verifier's equations (PROTOCOL 7.2, 7.3).
-- In a refused call all other parts of the answer are 0, and a lent table is as it was (PROTOCOL 7.4).
--
--   commit_refusal, commit_answer                        1 commit
--   round_refusal, round_answer                          2 the prover's round
--   fold_refusal, fold_key_exit, fold_message_exit       3 the fold of both tables
--   end_refusal, end_answer                              4 the prover's end
--   opening_refusal, opening_answer, opening_…_exit      5 the whole opening
--   check_refusal, check_answer                          the check of a transcript
--   opening_number, check_number                         the number of the verdict of these two
--   judge_refusal, judge_answer                          the judge
--   tree_refusal, extract_refusal, extract_exit          the extractor; tree_refusal is what is tested before the verifier runs
use Rattle.std.specs.Prelude.{Bool, true, false, ◌&&◌, List, [], ◌∷◌, ◌++◌, ℕ, ◌*◌, ◌^◌, leb, ltb, eqb, take, ℤ}
use Rattle.protocol.specs.declared.Settings.{Settings}
use Rattle.protocol.specs.Answers.Verdict.{Silent}
unfoldable pub use Rattle.protocol.specs.Answers.{no_polynomial}
use Rattle.protocol.specs.Answers.{Committed}
use Rattle.protocol.specs.Answers.{Polynomial}
use Rattle.protocol.specs.Answers.{Ended}
use Rattle.protocol.specs.Answers.{Opened}
use Rattle.protocol.specs.Answers.{Checked}
use Rattle.protocol.specs.Answers.{Judged}
use Rattle.protocol.specs.Basic.{every, tabulate, first, unless, granted}
use Rattle.protocol.specs.Element.{width, zeros, signed_zeros, padded_signed}
use Rattle.protocol.specs.Settings.{settings_refusal, cells, has_length, all_below, residue_rows, all_within, exponent, exponents}
use Rattle.protocol.specs.Layout.{rows_width, key_cells, left_cells, round_cells, nodes, leaves, tree_round_cells, tree_challenges, leaf_cells}
use Rattle.protocol.specs.Opening.{commitment, round_element, fold_message, message_after, final_element}
use Rattle.protocol.specs.Transcript.{accepted}
use Rattle.protocol.specs.Rows.{key_row, at_rows, together, round_tables, fold_keys, keys_after, transcripts_of, all_accepted}
use Rattle.protocol.specs.Session.{verdict, end_number}
use Rattle.protocol.specs.Tree.{row_path, apart, root_vector, growth_allowed}
use Rattle.protocol.specs.Judge.{slack_allowed, judged}

-- ---- 1 commit

unfoldable pub commit_refusal : Settings → List ℕ → List ℤ → ℕ
commit_refusal S key message =
    first
    (settings_refusal S
    ∷ unless 7 (has_length (key_cells S) key && has_length (cells S) message)
    ∷ unless 8 (all_below S key)
    ∷ unless 9 (all_within S.bound message)
    ∷ [])

unfoldable pub commit_answer : Settings → List ℕ → List ℤ → Committed
commit_answer S key message = record {
  refusal = commit_refusal S key message;
  commitment = granted (commit_refusal S key message) (at_rows S (λ r. commitment S (key_row S key r) message)) (zeros rows_width);
}

-- ---- 2 the prover's round

-- PROTOCOL 2.2: the bound grows with t, the part that is looked at shrinks
unfoldable pub left_small : Settings → ℕ → List ℤ → Bool
left_small S t message = all_within (2 ^ t * S.bound) (take (left_cells S t) message)

-- PROTOCOL 7.3, refusal 9: in a round or fold only while a round is left
unfoldable pub moving_small : Settings → ℕ → List ℤ → Bool
moving_small S t message = elim (ltb t S.depth) [ true ↦ left_small S t message | false ↦ true ]

unfoldable pub round_refusal : Settings → ℕ → List ℕ → List ℤ → ℕ
round_refusal S t key message =
    first
    (settings_refusal S
    ∷ unless 7 (has_length (key_cells S) key && has_length (cells S) message)
    ∷ unless 8 (all_below S key)
    ∷ unless 9 (moving_small S t message)
    ∷ unless 11 (ltb t S.depth)
    ∷ [])

-- PROTOCOL 2.3: the round polynomial by value
unfoldable pub polynomial : Settings → ℕ → List ℕ → List ℤ → List (List ℕ)
polynomial S t key message = tabulate 3 (λ j. at_rows S (λ r. round_element S t (key_row S key r) message j))

unfoldable pub round_answer : Settings → ℕ → List ℕ → List ℤ → Polynomial
round_answer S t key message = record {
  refusal = round_refusal S t key message;
  elements = granted (round_refusal S t key message) (polynomial S t key message) no_polynomial;
}

-- ---- 3 the fold of both tables; its answer is the number alone

unfoldable pub fold_refusal : Settings → ℕ → ℕ → List ℕ → List ℤ → ℕ
fold_refusal S t e key message =
    first
    (settings_refusal S
    ∷ unless 7 (has_length (key_cells S) key && has_length (cells S) message)
    ∷ unless 8 (all_below S key)
    ∷ unless 9 (moving_small S t message)
    ∷ unless 10 (exponent S e)
    ∷ unless 11 (ltb t S.depth)
    ∷ [])

unfoldable pub fold_key_exit : Settings → ℕ → ℕ → List ℕ → List ℤ → List ℕ
fold_key_exit S t e key message = granted (fold_refusal S t e key message) (fold_keys S t e key) key

unfoldable pub fold_message_exit : Settings → ℕ → ℕ → List ℕ → List ℤ → List ℤ
fold_message_exit S t e key message = granted (fold_refusal S t e key message) (fold_message S t e message) message

-- ---- 4 the prover's end

-- PROTOCOL 7.3, refusal 9: in the end also where no round is left
unfoldable pub ending_small : Settings → ℕ → List ℤ → Bool
ending_small S t message = elim (leb t S.depth) [ true ↦ left_small S t message | false ↦ true ]

-- PROTOCOL 8.6
unfoldable pub end_refusal : Settings → ℕ → List ℤ → ℕ
end_refusal S t message =
    first
    (settings_refusal S
    ∷ unless 7 (has_length (cells S) message)
    ∷ unless 9 (ending_small S t message)
    ∷ unless 11 (eqb t S.depth)
    ∷ [])

unfoldable pub end_answer : Settings → ℕ → List ℤ → Ended
end_answer S t message = record {
  refusal = end_refusal S t message;
  last = granted (end_refusal S t message) (padded_signed S.degree (final_element S message)) (signed_zeros width);
}

-- ---- 5 the whole opening

unfoldable pub opening_refusal : Settings → List ℕ → List ℤ → List ℕ → List ℕ → ℕ
opening_refusal S key message E rounds =
    first
    (settings_refusal S
    ∷ unless 7 (has_length (key_cells S) key && has_length (cells S) message && has_length S.depth E && has_length (round_cells S) rounds)
    ∷ unless 8 (all_below S key)
    ∷ unless 9 (all_within S.bound message)
    ∷ unless 10 (exponents S E)
    ∷ [])

-- PROTOCOL 8.7: the message's transcript, and what the verifier says of it
unfoldable pub opening_answer : Settings → List ℕ → List ℤ → List ℕ → List ℕ → Opened
opening_answer S key message E rounds =
    let refusal = opening_refusal S key message E rounds in
    let T = transcripts_of S key message E in
    record {
      refusal = refusal;
      commitment = granted refusal (at_rows S (λ r. commitment S (key_row S key r) message)) (zeros rows_width);
      last = granted refusal (padded_signed S.degree T.last) (signed_zeros width);
      verdict = granted refusal (verdict (all_accepted S key T)) Silent;
    }

unfoldable pub opening_number : Settings → List ℕ → List ℤ → List ℕ → List ℕ → ℕ
opening_number S key message E rounds = end_number (opening_refusal S key message E rounds) (all_accepted S key (transcripts_of S key message E))

-- PROTOCOL 8.7: each table is left folded all the way
unfoldable pub opening_key_exit : Settings → List ℕ → List ℤ → List ℕ → List ℕ → List ℕ
opening_key_exit S key message E rounds = granted (opening_refusal S key message E rounds) (keys_after S E S.depth key) key

unfoldable pub opening_message_exit : Settings → List ℕ → List ℤ → List ℕ → List ℕ → List ℤ
opening_message_exit S key message E rounds = granted (opening_refusal S key message E rounds) (message_after S E S.depth message) message

unfoldable pub opening_rounds_exit : Settings → List ℕ → List ℤ → List ℕ → List ℕ → List ℕ
opening_rounds_exit S key message E rounds = granted (opening_refusal S key message E rounds) (round_tables S E key message) rounds

-- ---- the check of a transcript

unfoldable pub check_refusal : Settings → List ℕ → List ℕ → List ℕ → List ℕ → ℕ
check_refusal S C key rounds E =
    first
    (settings_refusal S
    ∷ unless 7 (has_length (key_cells S) key && has_length (round_cells S) rounds && has_length S.depth E)
    ∷ unless 8 (all_below S key && residue_rows S C && all_below S rounds)
    ∷ unless 10 (exponents S E)
    ∷ [])

unfoldable pub check_answer : Settings → List ℕ → List ℤ → List ℕ → List ℕ → List ℕ → Checked
check_answer S C f key rounds E = record {
  refusal = check_refusal S C key rounds E;
  verdict = granted (check_refusal S C key rounds E) (verdict (all_accepted S key (record { commitment = together S C; rounds = rounds; challenges = E; last = f }))) Silent;
}

unfoldable pub check_number : Settings → List ℕ → List ℤ → List ℕ → List ℕ → List ℕ → ℕ
check_number S C f key rounds E =
    end_number (check_refusal S C key rounds E) (all_accepted S key (record { commitment = together S C; rounds = rounds; challenges = E; last = f }))

-- ---- the judge

unfoldable pub judge_refusal : Settings → List ℕ → ℕ → List ℕ → List ℤ → ℕ
judge_refusal S C c key w =
    first
    (settings_refusal S
    ∷ unless 7 (has_length (key_cells S) key && has_length (cells S) w)
    ∷ unless 8 (all_below S key && residue_rows S C)
    ∷ unless 14 (growth_allowed S)
    ∷ unless 15 (slack_allowed S c)
    ∷ [])

unfoldable pub judge_answer : Settings → List ℕ → ℕ → List ℕ → List ℤ → Judged
judge_answer S C c key w = record {
  refusal = judge_refusal S C c key w;
  yes = granted (judge_refusal S C c key w) (judged S key C c w) false;
}

-- ---- the extractor; its answer is the number alone

-- PROTOCOL 7.3, refusal 13: each path by itself
unfoldable pub every_path : Settings → List ℕ → List ℕ → List ℕ → List ℕ → List ℤ → Bool
every_path S C key rounds E finals = every (leaves S) (λ j. every S.rows (λ r. accepted S (key_row S key r) (row_path S C rounds E finals r j)))

-- what is tested before the verifier runs
abbrev pub tree_tests : Settings → List ℕ → List ℕ → List ℕ → List ℕ → List ℤ → List ℤ → List ℕ
tree_tests S C key rounds E finals w =
    settings_refusal S
    ∷ unless 7 (has_length (key_cells S) key && has_length (tree_round_cells S) rounds && has_length (tree_challenges S) E && has_length (leaf_cells S) finals && has_length (cells S) w)
    ∷ unless 8 (all_below S key && residue_rows S C && all_below S rounds)
    ∷ unless 10 (exponents S E)
    ∷ unless 12 (every (nodes S) (apart E))
    ∷ []

unfoldable pub tree_refusal : Settings → List ℕ → List ℕ → List ℕ → List ℕ → List ℤ → List ℤ → ℕ
tree_refusal S C key rounds E finals w = first (tree_tests S C key rounds E finals w)

unfoldable pub extract_refusal : Settings → List ℕ → List ℕ → List ℕ → List ℕ → List ℤ → List ℤ → ℕ
extract_refusal S C key rounds E finals w =
    first
    (tree_tests S C key rounds E finals w
    ++ unless 13 (every_path S C key rounds E finals)
    ∷ unless 14 (growth_allowed S)
    ∷ [])

-- PROTOCOL 8.13
unfoldable pub extract_exit : Settings → List ℕ → List ℕ → List ℕ → List ℕ → List ℤ → List ℤ → List ℤ
extract_exit S C key rounds E finals w = granted (extract_refusal S C key rounds E finals w) (root_vector S E finals) w
