-- The tables that the writer is lent, and the text of their values.
--
--   capped x                x as a value, or one past the limit of values where it is past the limit
--   gathered t              the values of the tables t as the writer gathers them: no residue is past the limit
--   settings_text S         the names line and the settings
--   parted b v k text       a text, and behind it the lines of k parts: part i has the shape b i and the values v i
--   behind_text S P n vs k  the first k tables behind a text, their lengths being n and their values vs, one table after the other
--   values_text S P n vs    the text of such values
--   tables_refusal          refusals 3 to 10, and 16, of the writer
--   Writable S P t          what the writer's core asks: the settings are allowed, the tables have their lengths, and residues are below q
--   Output text out r out'  what is answered and left in the output slice where the text is all that can be refused
use Rattle.std.specs.Prelude.{◌≡◌, true, ◌&&◌, List, [], ◌∷◌, ◌++◌, map, ℕ, zero, suc, ◌+◌, min, length, ℤ, pos}
use Rattle.protocol.specs.declared.Settings.{Settings}
use Rattle.protocol.specs.declared.Parts.{Parts}
use Rattle.protocol.specs.Answers.{Written}
use Rattle.protocol.specs.Basic.{all, within, first, unless}
use Rattle.protocol.specs.Settings.{settings_refusal, all_below}
use Rattle.text_format.specs.Text.{Shape, Tables, value_limit, narrow_limit, names, settings_shape, fits, entries_refusal, output_refusal, written, overwritten}
use Rattle.text_parts.specs.Parts.{table_count, part_of}
use Rattle.text_parts.specs.Flat.{piece}
use Rattle.table_writer.specs.Put.{part_text}

unfoldable pub capped : ℕ → ℤ
capped x = pos (min x (suc value_limit))

unfoldable pub gathered : Tables → List (List ℤ)
gathered t =
    map capped t.key
    ∷ t.message
    ∷ map capped t.commitment
    ∷ map capped t.rounds
    ∷ map pos t.challenges
    ∷ t.last
    ∷ map capped t.claims
    ∷ []

unfoldable pub settings_text : Settings → List ℕ
settings_text S = names ++ part_text settings_shape (pos S.degree ∷ pos S.depth ∷ capped S.modulus ∷ pos S.bound ∷ pos S.rows ∷ [])

unfoldable pub parted : (ℕ → Shape) → (ℕ → List ℤ) → ℕ → List ℕ → List ℕ
parted b v zero text = text
parted b v (suc k) text = parted b v k text ++ part_text (b k) (v k)

abbrev pub behind_text : Settings → Parts → List ℕ → List ℤ → ℕ → List ℕ → List ℕ
behind_text S P n vs k text = parted (λ i. part_of S P (i + 1)) (λ i. piece n i vs) k text

unfoldable pub values_text : Settings → Parts → List ℕ → List ℤ → List ℕ
values_text S P n vs = behind_text S P n vs table_count (settings_text S)

-- the writer's refusals but the last two, which are about its text
unfoldable pub tables_refusal : Settings → Parts → Tables → ℕ
tables_refusal S P t = first (settings_refusal S ∷ unless 7 (fits S P t) ∷ entries_refusal S (all (within narrow_limit) t.last) t ∷ [])

pub record Writable (S : Settings) (P : Parts) (t : Tables) : Type 0 where
  pub settings : settings_refusal S ≡ 0
  pub residues : all_below S t.key && (all_below S t.commitment && (all_below S t.rounds && all_below S t.claims)) ≡ true
  pub fitting : fits S P t ≡ true

pub record Output (text out : List ℕ) (r : Written) (out' : List ℕ) : Type 0 where
  pub answer : r ≡ written (output_refusal text (length out)) text
  pub out_exit : out' ≡ overwritten (output_refusal text (length out)) text out
