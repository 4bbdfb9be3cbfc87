-- PROTOCOL 9.7: one text for each table. The statement that reading gives back what was written, and writing what was read.
--
--   outcome S P t out   the bytes that the writer put into an output slice
--   Back, Forth         the two halves, for one call each
--   RoundTrip           both, for all settings, parts, tables and texts
--   OneText             each table has one text: two texts that are read as the same settings and tables are the same text
use Rattle.std.specs.Prelude.{◌≡◌, true, List, ◌++◌, ℕ, ◌≤◌, length, take, drop}
use Rattle.protocol.specs.declared.Settings.{Settings}
use Rattle.protocol.specs.declared.Parts.{Parts}
use Rattle.text_format.specs.Text.{Tables, fits, read_answer, read_exit, write_answer, write_exit}

unfoldable pub outcome : Settings → Parts → Tables → List ℕ → List ℕ
outcome S P t out = take (write_answer S P t out).count (write_exit S P t out)

-- the text of tables that are not refused is read into any lent tables of the right lengths, with the same settings and the same tables
pub record Back (S : Settings) (P : Parts) (t : Tables) (out : List ℕ) (lent : Tables) : Type 0 where
  pub answer : read_answer P (outcome S P t out) lent ≡ record { refusal = 0; settings = S }
  pub tables : read_exit P (outcome S P t out) lent ≡ t

-- what was read of a text that is not refused is written, into any output slice that is long enough, as the same text
pub record Forth (P : Parts) (text : List ℕ) (lent : Tables) (out : List ℕ) : Type 0 where
  pub answer : write_answer (read_answer P text lent).settings P (read_exit P text lent) out ≡ record { refusal = 0; count = length text }
  pub output : write_exit (read_answer P text lent).settings P (read_exit P text lent) out ≡ text ++ drop (length text) out

pub record RoundTrip : Type 0 where
  pub back : (S : Settings) (P : Parts) (t : Tables) (out : List ℕ) (lent : Tables)
      → (write_answer S P t out).refusal ≡ 0 → fits S P lent ≡ true → Back S P t out lent
  pub forth : (P : Parts) (text : List ℕ) (lent : Tables) (out : List ℕ)
      → (read_answer P text lent).refusal ≡ 0 → length text ≤ length out → Forth P text lent out

-- whatever tables were lent for reading
abbrev pub OneText : Type 0
OneText = (P : Parts) (text text' : List ℕ) (lent lent' : Tables)
    → (read_answer P text lent).refusal ≡ 0 → (read_answer P text' lent').refusal ≡ 0
    → (read_answer P text lent).settings ≡ (read_answer P text' lent').settings → read_exit P text lent ≡ read_exit P text' lent' → text ≡ text'
