-- PROTOCOL 3.8: claims that are written beside a transcript, as part 7 of a text has them: an element for each row after each round. A claim is fixed by the
-- round's elements and its challenge, so that what is written can be compared with what they give.
--
--   claim_of S T t r               the claim after round t + 1 in row r
--   claim_table S T                the claims of a transcript, round after round and in each round row by row
--   claim_written S T claims t r   is the claim that is written for round t + 1 in row r that one
--   claims_written S T claims      is every written claim the one that is worked out, as a test; `ClaimsWritten` is the same as a statement
use Rattle.std.specs.Prelude.{◌≡◌, Bool, List, ℕ, suc, ◌+◌, ◌*◌, ◌/◌, ◌%◌, ◌<◌, eqb, get_or}
use Rattle.protocol.specs.declared.Settings.{Settings}
use Rattle.protocol.specs.Basic.{every, flat}
use Rattle.protocol.specs.Layout.{claim_items}
use Rattle.protocol.specs.Transcript.{Transcript, claim_after}
use Rattle.protocol.specs.Rows.{row_of}

module _ (S : Settings) where
  open S use {degree as d, depth as L, rows as rows}

  unfoldable pub claim_of : Transcript → ℕ → ℕ → List ℕ
  claim_of T t r = claim_after S (row_of S T r) (suc t)

  -- PROTOCOL 9.2, part 7: item rows·t + r
  unfoldable pub claim_table : Transcript → List ℕ
  claim_table T = flat d (claim_items S) (λ i k. get_or (claim_of T (i / rows) (i % rows)) k 0)

  unfoldable pub claim_written : Transcript → List ℕ → ℕ → ℕ → Bool
  claim_written T claims t r = every d (λ k. eqb (get_or claims ((rows * t + r) * d + k) 0) (get_or (claim_of T t r) k 0))

  -- PROTOCOL 10.2
  unfoldable pub claims_written : Transcript → List ℕ → Bool
  claims_written T claims = every L (λ t. every rows (claim_written T claims t))

  abbrev pub ClaimsWritten : Transcript → List ℕ → Type 0
  ClaimsWritten T claims = (t : ℕ) → t < L → (r : ℕ) → r < rows → (k : ℕ) → k < d → get_or claims ((rows * t + r) * d + k) 0 ≡ get_or (claim_of T t r) k 0
