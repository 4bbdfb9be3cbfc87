-- What the check of a transcript asks of what it is given; the refusals ensure it.
--
--   whole C rounds E           the transcript of one row of these with no final element: no round reads it
--   lent_row S C rounds E f    the transcript of a row, from the parts of the commitment and of the rounds that begin with the row
--   row_at S w C rounds E f i  that of row i, the commitment having its elements w places from each other
--   RoundsGiven S rounds x     the settings are allowed, there are L round polynomials of residues in a row's part of the rounds, and a list of x numbers has an element: the claim
--   Held S rounds E C C' r     r tells whether every round holds from the claim C on, and where they all do C' is the claim after the last
--   RowGiven S x ..            so it is with the key of a row and its part of the rounds, there are L challenges, and the final element is among x numbers
--   Sized S w C key rounds     the settings are allowed, and commitment, key and rounds have so many numbers
--   TranscriptGiven S x ..     key and rounds of all rows are residues, there are L challenges, and the final element is among x numbers
use Rattle.std.specs.Prelude.{Bool, true, List, [], ◌≡◌, ℕ, ◌+◌, ◌*◌, ◌<◌, ◌≤◌, ℤ, length, get_or}
use Rattle.protocol.specs.declared.Settings.{Settings}
use Rattle.protocol.specs.Settings.{settings_refusal, cells}
use Rattle.protocol.specs.Layout.{width, item_cells, key_cells, round_items, round_cells}
use Rattle.protocol.specs.Inputs.{Below}
use Rattle.protocol.specs.Basic.{every, tabulate}
use Rattle.protocol.specs.Transcript.{Transcript, holds_at, claim_after}
use Rattle.protocol.specs.Nodes.{Alike}
use Rattle.protocol.specs.Rows.{row_items}
use Rattle.equations.specs.Items.{row_table}

abbrev pub whole : List ℕ → List ℕ → List ℕ → Transcript
whole C rounds E = record { commitment = C; rounds = rounds; challenges = E; last = [] }

unfoldable pub lent_row : Settings → List ℕ → List ℕ → List ℕ → List ℤ → Transcript
lent_row S C rounds E f = record {
  commitment = tabulate S.degree (λ k. get_or C k 0);
  rounds = row_table S (round_items S) rounds;
  challenges = E;
  last = f;
}

unfoldable pub row_at : Settings → ℕ → List ℕ → List ℕ → List ℕ → List ℤ → ℕ → Transcript
row_at S w C rounds E f i = record {
  commitment = tabulate S.degree (λ k. get_or C (i * w + k) 0);
  rounds = row_items S (round_items S) rounds i;
  challenges = E;
  last = f;
}

pub record RoundsGiven (S : Settings) (rounds : List ℕ) (claim : ℕ) : Type 0 where
  pub allowed : settings_refusal S ≡ 0
  pub rounds_long : round_cells S + S.degree ≤ length rounds + item_cells S
  pub rounds_below : (j : ℕ) → get_or rounds j 0 < S.modulus
  pub claim_long : S.degree ≤ claim

pub record RowGiven (S : Settings) (final : ℕ) (key rounds E : List ℕ) : Type 0 where
  pub allowed : settings_refusal S ≡ 0
  pub key_below : Below S.modulus (cells S) key
  pub rounds_long : round_cells S + S.degree ≤ length rounds + item_cells S
  pub rounds_below : (j : ℕ) → get_or rounds j 0 < S.modulus
  pub challenges-long : length E ≡ S.depth
  pub final_long : S.degree ≤ final

pub record Held (S : Settings) (rounds E C C' : List ℕ) (r : Bool) : Type 0 where
  pub every_round : r ≡ every S.depth (holds_at S (whole C rounds E))
  pub claim_is : r ≡ true → Alike S.degree C' (claim_after S (whole C rounds E) S.depth)

pub record Sized (S : Settings) (w commitment key rounds : ℕ) : Type 0 where
  pub allowed : settings_refusal S ≡ 0
  pub wide : w ≤ width
  pub commitment-long : S.rows * w ≤ commitment
  pub key_long : key ≡ key_cells S
  pub rounds_long : rounds ≡ round_cells S

pub record TranscriptGiven (S : Settings) (final : ℕ) (key rounds E : List ℕ) : Type 0 where
  pub allowed : settings_refusal S ≡ 0
  pub key_below : Below S.modulus (key_cells S) key
  pub rounds_below : Below S.modulus (round_cells S) rounds
  pub challenges-long : length E ≡ S.depth
  pub final_long : S.degree ≤ final
