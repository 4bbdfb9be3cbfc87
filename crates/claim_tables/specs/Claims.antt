-- Claims as the code works them out, item by item.
--
--   claimed rounds E           a transcript with these round elements and challenges: a claim reads nothing else of it
--   item_claim S rounds E i    the claim of item i: after round i / rows + 1, in row i % rows
--   items_most                 32: how many claims there can be
--   claims_room                4,096: the room for the claims of every transcript
--   Given S rounds             the settings are allowed, and the rounds are those of a transcript, residues only
use Rattle.std.specs.Prelude.{List, [], ◌≡◌, ℕ, ◌*◌, ◌/◌, ◌%◌}
use Rattle.protocol.specs.declared.Settings.{Settings}
use Rattle.protocol.specs.Layout.{width, rows_most, slots, round_cells}
use Rattle.protocol.specs.Settings.{settings_refusal}
use Rattle.protocol.specs.Inputs.{Below}
use Rattle.protocol.specs.Transcript.{Transcript}
use Rattle.protocol.specs.WrittenClaims.{claim_of}

abbrev pub claimed : List ℕ → List ℕ → Transcript
claimed rounds E = record { commitment = []; rounds = rounds; challenges = E; last = [] }

unfoldable pub item_claim : Settings → List ℕ → List ℕ → ℕ → List ℕ
item_claim S rounds E i = claim_of S (claimed rounds E) (i / S.rows) (i % S.rows)

abbrev pub items_most : ℕ
items_most = 32

abbrev pub claims_room : ℕ
claims_room = rows_most * slots * width

pub record Given (S : Settings) (rounds : List ℕ) : Type 0 where
  pub allowed : settings_refusal S ≡ 0
  pub rounds_below : Below S.modulus (round_cells S) rounds
