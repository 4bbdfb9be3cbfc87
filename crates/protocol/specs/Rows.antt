-- PROTOCOL 1.4 and 3.4: several rows. A key has a row of n elements after the other; the elements of a commitment, of a round polynomial and of a tree stand
-- item by item, and in each item row by row: element rows·i + r is item i of row r. What holds of one row (Opening, Transcript) is applied row by row.
--
--   key_row S key r          row r of a key
--   stacked S f              the key whose row r is f r
--   row_items S n t r        row r of a table of n items
--   interleaved S n f        the table of n items whose row r is f r
--   at_rows S f              the elements f r of the rows r, by value: with zeros behind their places and in the places past the rows
--   together S C             elements of the rows that are passed by value, as a flat table
--   row_of S T r             row r of a transcript
--   commitments S ..         the commitment, an element for each row
--   round_tables S E ..      the round elements of a whole opening
--   fold_keys, keys_after    a key after the fold of round t + 1, and after t folds, each row in its own n places
--   transcripts_of S ..      a message's transcript
--   all_accepted S key T     is a transcript accepted, as a test; `AllAccepted` is the same as a statement
--   Cause, cause             why it is rejected: the first round that fails in some row, else the bound, else the last equation
use Rattle.std.specs.Prelude.{Bool, true, false, ◌&&◌, not, List, ℕ, ◌+◌, ◌*◌, ◌/◌, ◌%◌, ◌<◌, ltb, get_or, ℤ}
use Rattle.protocol.specs.declared.Settings.{Settings}
use Rattle.protocol.specs.Basic.{every, least, tabulate, flat, choose}
use Rattle.protocol.specs.Element.{width, value_row, signed}
use Rattle.protocol.specs.Settings.{cells}
use Rattle.protocol.specs.Layout.{rows_most, round_items}
use Rattle.protocol.specs.Opening.{commitment, round_table, fold_key, key_after, message_after, final_element}
use Rattle.protocol.specs.Transcript.{Transcript, final_bounded, holds_at, closes, accepted, Accepted}

-- the rounds are counted from 1
pub data Cause : Type 0 where
  none : Cause
  round : ℕ → Cause
  bound : Cause
  equation : Cause

-- PROTOCOL 3.5: at the end the bound comes before the equation; the example of 12.1 with final element 3 0 fails both
unfoldable pub end_cause : Bool → Bool → Cause
end_cause false met = Cause.bound
end_cause true false = Cause.equation
end_cause true true = Cause.none

module _ (S : Settings) where
  open S use {degree as d, depth as L, rows as rows}

  -- PROTOCOL 1.4: key item r·n + i is element i of row r
  unfoldable pub key_row : List ℕ → ℕ → List ℕ
  key_row key r = tabulate (cells S) (λ p. get_or key (r * cells S + p) 0)

  unfoldable pub stacked : (ℕ → List ℕ) → List ℕ
  stacked f = flat (cells S) rows (λ r p. get_or (f r) p 0)

  -- PROTOCOL 1.4
  unfoldable pub row_items : ℕ → List ℕ → ℕ → List ℕ
  row_items n t r = flat d n (λ i k. get_or t ((rows * i + r) * d + k) 0)

  unfoldable pub interleaved : ℕ → (ℕ → List ℕ) → List ℕ
  interleaved n f = flat d (rows * n) (λ i k. get_or (f (i % rows)) (i / rows * d + k) 0)

  -- PROTOCOL 8.1
  unfoldable pub at_rows : (ℕ → List ℕ) → List ℕ
  at_rows f = flat width rows_most (λ r k. choose (ltb r rows && ltb k d) (get_or (f r) k 0) 0)

  unfoldable pub together : List ℕ → List ℕ
  together C = flat d rows (λ r k. get_or (value_row C r) k 0)

  -- the challenges and the final element are those of every row
  unfoldable pub row_of : Transcript → ℕ → Transcript
  row_of T r = record {
    commitment = tabulate d (λ k. get_or T.commitment (r * d + k) 0);
    rounds = row_items (round_items S) T.rounds r;
    challenges = T.challenges;
    last = T.last;
  }

  -- ---- the prover

  unfoldable pub commitments : List ℕ → List ℤ → List ℕ
  commitments key message = flat d rows (λ r k. get_or (commitment S (key_row key r) message) k 0)

  unfoldable pub round_tables : List ℕ → List ℕ → List ℤ → List ℕ
  round_tables E key message = interleaved (round_items S) (λ r. round_table S E (key_row key r) message)

  unfoldable pub fold_keys : ℕ → ℕ → List ℕ → List ℕ
  fold_keys t e key = stacked (λ r. fold_key S t e (key_row key r))

  unfoldable pub keys_after : List ℕ → ℕ → List ℕ → List ℕ
  keys_after E t key = stacked (λ r. key_after S E t (key_row key r))

  -- PROTOCOL 2.6
  unfoldable pub transcripts_of : List ℕ → List ℤ → List ℕ → Transcript
  transcripts_of key message E = record {
    commitment = commitments key message;
    rounds = round_tables E key message;
    challenges = E;
    last = final_element S (message_after S E L message);
  }

  -- ---- the verifier

  -- PROTOCOL 3.4
  unfoldable pub all_accepted : List ℕ → Transcript → Bool
  all_accepted key T = every rows (λ r. accepted S (key_row key r) (row_of T r))

  abbrev pub AllAccepted : List ℕ → Transcript → Type 0
  AllAccepted key T = (r : ℕ) → r < rows → Accepted S (key_row key r) (row_of T r)

  -- PROTOCOL 3.5: how many rounds hold in every row before the first that fails in one
  unfoldable pub held : Transcript → ℕ
  held T = least L (λ t. not (every rows (λ r. holds_at S (row_of T r) t)))

  unfoldable pub cause : List ℕ → Transcript → Cause
  cause key T =
      elim (ltb (held T) L) [
        | true ↦ Cause.round (held T + 1)
        | false ↦ end_cause (final_bounded S (signed T.last)) (every rows (λ r. closes S (key_row key r) (row_of T r)))
      ]
