-- What the prover's work in every row of a key gives, and what it asks.
--
--   committed S ..       the commitment of row r
--   CommitTo S ..        the number of commit is returned; a refused call leaves the table, any other leaves the commitment at its front
--   KeysGiven S t key    the settings are allowed, every row of the key is n elements of residues, and a round is left
use Rattle.std.specs.Prelude.{◌≢◌, ◌≡◌, List, ℕ, ◌<◌, ◌≤◌, ℤ, length}
use Rattle.protocol.specs.declared.Settings.{Settings}
use Rattle.protocol.specs.Layout.{key_cells, item_cells}
use Rattle.protocol.specs.Settings.{settings_refusal, cells}
use Rattle.protocol.specs.Inputs.{Below}
use Rattle.protocol.specs.Opening.{commitment}
use Rattle.protocol.specs.Rows.{key_row}
use Rattle.protocol.specs.Calls.{commit_refusal}
use Rattle.residues.specs.Lists.{filled}
use Rattle.plain_products.specs.Rowwise.{row_places}

abbrev pub committed : Settings → List ℕ → List ℤ → ℕ → List ℕ
committed S key message r = commitment S (key_row S key r) message

pub record CommitTo (S : Settings) (key : List ℕ) (message : List ℤ) (out : List ℕ) (r : ℕ) (out' : List ℕ) : Type 0 where
  pub refusal : r ≡ commit_refusal S key message
  pub kept : r ≢ 0 → out' ≡ out
  pub written : r ≡ 0 → item_cells S ≤ length out → out' ≡ filled (row_places S.degree (committed S key message)) (item_cells S) out

pub record KeysGiven (S : Settings) (t : ℕ) (key : List ℕ) : Type 0 where
  pub allowed : settings_refusal S ≡ 0
  pub long : length key ≡ key_cells S
  pub rows_given : (r : ℕ) → r < S.rows → Below S.modulus (cells S) (key_row S key r)
  pub turn : t < S.depth
