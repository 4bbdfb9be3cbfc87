-- What a prover's work in one row of a key asks of it: what is known of every row where nothing is refused.
--
--   TablesGiven S key message    the settings are allowed, the key is one row, n elements of residues, and the message has its length
--   SmallLeft S t message        what is left of the message after t rounds lies within ±2^t·B
--   CommitGiven, RoundGiven      the same in a commit and in the prover's round: and the message is small, or what is left of it, and a round is left
--   FoldGiven S t e ..           the same in a fold: and e is an exponent
use Rattle.std.specs.Prelude.{◌≡◌, List, ℕ, ◌*◌, ◌^◌, ◌<◌, ◌≤◌, ℤ, pos, nat_abs, length, get_or}
use Rattle.protocol.specs.declared.Settings.{Settings}
use Rattle.protocol.specs.Settings.{settings_refusal, cells}
use Rattle.protocol.specs.Layout.{left_cells}
use Rattle.protocol.specs.Inputs.{Valid, Below, Within}

pub record TablesGiven (S : Settings) (key : List ℕ) (message : List ℤ) : Type 0 where
  pub allowed : settings_refusal S ≡ 0
  pub settings : Valid S
  pub key_given : Below S.modulus (cells S) key
  pub message_long : length message ≡ cells S

abbrev pub SmallLeft : Settings → ℕ → List ℤ → Type 0
SmallLeft S t message = (j : ℕ) → j < left_cells S t → nat_abs (get_or message j (pos 0)) ≤ 2 ^ t * S.bound

pub record CommitGiven (S : Settings) (key : List ℕ) (message : List ℤ) : Type 0 where
  pub tables : TablesGiven S key message
  pub message_given : Within S.bound (cells S) message

pub record RoundGiven (S : Settings) (t : ℕ) (key : List ℕ) (message : List ℤ) : Type 0 where
  pub tables : TablesGiven S key message
  pub small_left : SmallLeft S t message
  pub turn : t < S.depth

pub record FoldGiven (S : Settings) (t e : ℕ) (key : List ℕ) (message : List ℤ) : Type 0 where
  pub tables : TablesGiven S key message
  pub small_left : SmallLeft S t message
  pub exponent_below : e < 2 * S.degree
  pub turn : t < S.depth
