-- An opening of tables of which nothing is refused, and its text.
--
--   Openable S G M E rounds   the settings are allowed, key, message and challenges have their lengths and ranges, and there is room for the round elements
--   proof S G M E             the text of the message's transcript, with its claims
--   Printed                   what is answered and stored where that text is all that can be refused
--   RoundsLent text rounds    the table for the round elements has its length, where the text has the lines that its settings ask for
use Rattle.std.specs.Prelude.{◌≡◌, true, List, ℕ, length, ℤ}
use Rattle.protocol.specs.declared.Settings.{Settings}
use Rattle.protocol.specs.Answers.{Written}
use Rattle.protocol.specs.Layout.{key_cells, round_cells, exponent_count}
use Rattle.protocol.specs.Settings.{cells}
use Rattle.protocol.specs.Inputs.{Valid, Below, Within}
use Rattle.protocol.specs.Rows.{transcripts_of}
use Rattle.text_format.specs.Text.{text_of, wanted, lines_of, spots_of, same_spots, settings_in, look_refusal}
use Rattle.text_format.specs.Programs.{prove_reads, prove_prints, printed}
use Rattle.table_writer.specs.Tables.{Output}

pub record Openable (S : Settings) (G : List ℕ) (M : List ℤ) (E rounds : List ℕ) : Type 0 where
  pub settings : Valid S
  pub key : Below S.modulus (key_cells S) G
  pub message : Within S.bound (cells S) M
  pub challenges : Below (exponent_count S) S.depth E
  pub rounds_long : length rounds ≡ round_cells S

abbrev pub proof : Settings → List ℕ → List ℤ → List ℕ → List ℕ
proof S G M E = text_of S prove_prints (printed S (transcripts_of S G M E))

abbrev pub Printed : Settings → List ℕ → List ℤ → List ℕ → List ℕ → Written → List ℕ → Type 0
Printed S G M E out r out' = Output (proof S G M E) out r out'

abbrev pub RoundsLent : List ℕ → List ℕ → Type 0
RoundsLent text rounds =
    let S = settings_in (lines_of text) in
    look_refusal text ≡ 0 → same_spots (spots_of (lines_of text)) (wanted S prove_reads) ≡ true → length rounds ≡ round_cells S
