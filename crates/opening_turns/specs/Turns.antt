-- The turns of a whole opening: what stands after t rounds, and what each turn does with it, in every row.
-- G, M and R are the key, the message and the table for the round elements as they were lent, E the challenges.
--
--   rest_stored S t .. l   the table l in which c1 and c2 stand as those of round t + 1
--   TablesAt .. t ..       the three tables after t rounds; of the round elements those of t rounds stand there, and c0 of the next round
--   ClaimsAt .. t claims   the verifier's claims after t rounds; of the list only an element for each row counts
--   CheckedAt .. t ..      those claims, and whether every round so far held
--   ProverMove ..          what the prover's move does, whatever is opened
--   VerifierMove ..        what the verifier's move does with it
--   Finished ..            both after all L rounds
--   ProverTurn ..          what the prover's turn and all turns after it do
--   VerifierTurn ..        the same of the verifier's turn: the tables are one round on
use Rattle.std.specs.Prelude.{◌≡◌, Bool, ◌&&◌, List, ◌++◌, ℕ, suc, ◌+◌, ◌*◌, ◌<◌, ◌≤◌, ℤ, length, get_or, take, drop}
use Rattle.protocol.specs.declared.Settings.{Settings}
use Rattle.protocol.specs.Basic.{every}
use Rattle.protocol.specs.Layout.{item_cells, polynomial_at}
use Rattle.protocol.specs.Opening.{message_after}
use Rattle.protocol.specs.Transcript.{Transcript, claim_after, holds_at, transcript_of}
use Rattle.protocol.specs.Rows.{key_row, keys_after, round_tables}
use Rattle.protocol.specs.Calls.{opening_refusal}
use Rattle.residues.specs.Lists.{spliced}
use Rattle.plain_products.specs.Rowwise.{row_places}
use Rattle.opening_rounds.specs.Rounds.{round_item}
use Rattle.opening_checks.specs.Checks.{RowsChecked}
use Rattle.opening_turns.specs.declared.State.{State}

unfoldable pub rest_stored : Settings → ℕ → List ℕ → List ℤ → List ℕ → List ℕ
rest_stored S t key message l =
    let n = item_cells S in
    spliced (row_places S.degree (round_item S t key message 2)) (polynomial_at S t + 2 * n) n
    (spliced (row_places S.degree (round_item S t key message 1)) (polynomial_at S t + n) n l)

module _ (S : Settings) (G : List ℕ) (M : List ℤ) (E R : List ℕ) where
  open S use {degree as d, depth as L, rows as rows}

  -- the transcript of a row
  abbrev row : ℕ → Transcript
  row r = transcript_of S (key_row S G r) M E

  pub record TablesAt (t : ℕ) (key : List ℕ) (message : List ℤ) (rounds : List ℕ) : Type 0 where
    pub done_most : t ≤ L
    pub key_is : key ≡ keys_after S E t G
    pub message_is : message ≡ message_after S E t M
    pub rounds_is : rounds ≡ take (polynomial_at S t + item_cells S) (round_tables S E G M) ++ drop (polynomial_at S t + item_cells S) R

  pub record ClaimsAt (t : ℕ) (claims : List ℕ) : Type 0 where
    pub long : item_cells S ≤ length claims
    pub is : (r k : ℕ) → r < rows → k < d → get_or claims (r * d + k) 0 ≡ get_or (claim_after S (row r) t) k 0

  pub record CheckedAt (t : ℕ) (claims : List ℕ) (holds : Bool) : Type 0 where
    pub claims_are : ClaimsAt t claims
    pub holds_is : holds ≡ every t (λ u. every rows (λ r. holds_at S (row r) u))

  pub record Finished (claims key : List ℕ) (message : List ℤ) (rounds : List ℕ) (s : State) : Type 0 where
    pub tables : TablesAt L key message rounds
    pub checks : CheckedAt L claims s.holds

module _ (S : Settings) (t e : ℕ) (claims key : List ℕ) (message : List ℤ) (rounds key' : List ℕ) (message' : List ℤ) (rounds' : List ℕ) where
  pub record ProverMove : Type 0 where
    pub moves : (G : List ℕ) (M : List ℤ) (E R : List ℕ) → opening_refusal S G M E R ≡ 0 → t < S.depth → e ≡ get_or E t 0
        → TablesAt S G M E R t key message rounds → ClaimsAt S G M E R t claims
        → TablesAt S G M E R (suc t) key' message' rounds'

module _ (S : Settings) (s : State) (e : ℕ) (claims rounds : List ℕ) (r : State) (claims' : List ℕ) where
  pub record VerifierMove : Type 0 where
    pub done_is : r.done ≡ s.done + 1
    pub claims_kept : length claims' ≡ length claims
    pub met : Bool
    pub holds_is : r.holds ≡ (s.holds && met)
    pub checked : RowsChecked S s.done e claims rounds met claims'

module _ (S : Settings) (E : List ℕ) (s : State) (claims key : List ℕ) (message : List ℤ) (rounds : List ℕ) (r : State) (claims' key' : List ℕ) (message' : List ℤ) (rounds' : List ℕ) where
  pub record ProverTurn : Type 0 where
    pub turns : (G : List ℕ) (M : List ℤ) (R : List ℕ) → opening_refusal S G M E R ≡ 0
        → TablesAt S G M E R s.done key message rounds → CheckedAt S G M E R s.done claims s.holds
        → Finished S G M E R claims' key' message' rounds' r

  pub record VerifierTurn (e : ℕ) : Type 0 where
    pub turns : (G : List ℕ) (M : List ℤ) (R : List ℕ) → opening_refusal S G M E R ≡ 0 → e ≡ get_or E s.done 0
        → TablesAt S G M E R (suc s.done) key message rounds → CheckedAt S G M E R s.done claims s.holds
        → Finished S G M E R claims' key' message' rounds' r
