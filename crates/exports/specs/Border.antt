-- The exported calls that take or give an element or a round polynomial in a slice: their refusals, and what each leaves in what it is lent. The names are
-- those of the header. A refused call writes nothing to a slice, and what it answers beside its number is 0.
--
--   commit_number, commit_exit             commit, and the slice `commitment` at exit
--   round_number, round_exit               the prover's round, and the slice `polynomial`
--   end_number, end_exit                   the prover's end, and the slice `last`
--   open_number, open_key_exit, ..         the whole opening, each slice that it writes, and the verdict
--   check_number, check_verdict            the check of a transcript
--   judge_number, judge_yes                the judge
--   extract_number, extract_exit           the extractor, and the slice `w`
-- The fold is `fold_refusal`, `fold_key_exit`, `fold_message_exit` of protocol as it stands; the session's moves are in sessions, the calls on text in texts.
use Rattle.std.specs.Prelude.{◌&&◌, List, ℕ, ℤ, take}
use Rattle.protocol.specs.declared.Settings.{Settings}
use Rattle.protocol.specs.Basic.{choose, granted}
use Rattle.protocol.specs.Element.{padded_signed}
use Rattle.protocol.specs.Layout.{item_cells, polynomial_cells}
use Rattle.protocol.specs.Settings.{has_length}
use Rattle.protocol.specs.Rows.{together}
use Rattle.protocol.specs.Calls as Calls
use Rattle.slices.specs.Slices.{lent, values_of, laid}
use Rattle.protocol.specs.Session.{verdict_number}

unfoldable pub commit_number : Settings → List ℕ → List ℤ → List ℕ → ℕ
commit_number S key message commitment = lent S (has_length (item_cells S) commitment) (Calls.commit_answer S key message).refusal

unfoldable pub commit_exit : Settings → List ℕ → List ℤ → List ℕ → List ℕ
commit_exit S key message commitment = granted (commit_number S key message commitment) (together S (Calls.commit_answer S key message).commitment) commitment

unfoldable pub round_number : Settings → ℕ → List ℕ → List ℤ → List ℕ → ℕ
round_number S t key message polynomial = lent S (has_length (polynomial_cells S) polynomial) (Calls.round_answer S t key message).refusal

unfoldable pub round_exit : Settings → ℕ → List ℕ → List ℤ → List ℕ → List ℕ
round_exit S t key message polynomial = granted (round_number S t key message polynomial) (laid S (Calls.round_answer S t key message).elements) polynomial

unfoldable pub end_number : Settings → ℕ → List ℤ → List ℤ → ℕ
end_number S t message last = lent S (has_length S.degree last) (Calls.end_answer S t message).refusal

unfoldable pub end_exit : Settings → ℕ → List ℤ → List ℤ → List ℤ
end_exit S t message last = granted (end_number S t message last) (take S.degree (Calls.end_answer S t message).last) last

-- C and f are the slices for commitment and final element
module _ (S : Settings) (key : List ℕ) (message : List ℤ) (E rounds C : List ℕ) (f : List ℤ) where
  unfoldable pub open_number : ℕ
  open_number = lent S (has_length (item_cells S) C && has_length S.degree f) (Calls.opening_answer S key message E rounds).refusal

  unfoldable pub open_key_exit : List ℕ
  open_key_exit = granted open_number (Calls.opening_key_exit S key message E rounds) key

  unfoldable pub open_message_exit : List ℤ
  open_message_exit = granted open_number (Calls.opening_message_exit S key message E rounds) message

  unfoldable pub open_rounds_exit : List ℕ
  open_rounds_exit = granted open_number (Calls.opening_rounds_exit S key message E rounds) rounds

  unfoldable pub open_commitment_exit : List ℕ
  open_commitment_exit = granted open_number (together S (Calls.opening_answer S key message E rounds).commitment) C

  unfoldable pub open_last_exit : List ℤ
  open_last_exit = granted open_number (take S.degree (Calls.opening_answer S key message E rounds).last) f

  unfoldable pub open_verdict : ℕ
  open_verdict = granted open_number (verdict_number (Calls.opening_answer S key message E rounds).verdict) 0

module _ (S : Settings) (C : List ℕ) (f : List ℤ) (key rounds E : List ℕ) where
  unfoldable pub check_number : ℕ
  check_number = lent S (has_length (item_cells S) C && has_length S.degree f) (Calls.check_answer S (values_of S C) (padded_signed S.degree f) key rounds E).refusal

  unfoldable pub check_verdict : ℕ
  check_verdict = granted check_number (verdict_number (Calls.check_answer S (values_of S C) (padded_signed S.degree f) key rounds E).verdict) 0

-- c is the slack
module _ (S : Settings) (C : List ℕ) (c : ℕ) (key : List ℕ) (w : List ℤ) where
  unfoldable pub judge_number : ℕ
  judge_number = lent S (has_length (item_cells S) C) (Calls.judge_answer S (values_of S C) c key w).refusal

  unfoldable pub judge_yes : ℕ
  judge_yes = granted judge_number (choose (Calls.judge_answer S (values_of S C) c key w).yes 1 0) 0

module _ (S : Settings) (C key rounds E : List ℕ) (leaves w : List ℤ) where
  unfoldable pub extract_number : ℕ
  extract_number = lent S (has_length (item_cells S) C) (Calls.extract_refusal S (values_of S C) key rounds E leaves w)

  unfoldable pub extract_exit : List ℤ
  extract_exit = granted extract_number (Calls.extract_exit S (values_of S C) key rounds E leaves w) w
