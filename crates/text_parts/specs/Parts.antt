-- The parts of a text in the shape in which the code goes through their lines.
--
--   tables_of             the tables of parts 1 to 7
--   as_shape b            a part as the definitions have it
--   cell_at places p      line p of a part: its item and its place
--   next_cell places c    the line behind a line; a line outside its item, or of the last item that there can be, stays
--   part_shape S P part   the shape of a part
--   counted S             are depth and rows not more than are allowed, so that items can be counted
--   part_of S P part      the same, and part 0 where they are
--   table_count           7: how many parts there are behind the settings, each with a table
--   lengths_of t          how long the tables are; the table of part k + 1 has place k
--   lengths_are b n       has every table the length of its part, part k being b k
--   lengths_fit S P n     has every table its length
--   Exact S P t           the lengths of tables that fit
--   tested_by k           the refusal that tests the values of the table at place k; 0 where none does
--   test_number x         the number of a refusal, where there is one; else 0
--   values_room           8,192: the room for the values of every text that is not too long
--   cells_room            as many: the room for each of its tables
--   lent_cells n          how many numbers of a table of n are lent to the reader of such a text
use Rattle.std.specs.Prelude.{◌≡◌, Bool, ◌&&◌, List, [], ◌∷◌, Option, Some, None, ℕ, ◌+◌, ◌/◌, ◌%◌, min, leb, ltb, eqb, length, get_or, ℤ}
use Rattle.protocol.specs.declared.Settings.{Settings}
use Rattle.protocol.specs.declared.Parts.{Parts}
use Rattle.protocol.specs.declared.Refusal.{Refusal}
use Rattle.protocol.specs.Basic.{choose, every}
use Rattle.protocol.specs.Refusal.{number}
use Rattle.protocol.specs.Layout.{rows_most}
use Rattle.protocol.specs.Settings.{depth_allowed}
use Rattle.text_format.specs.Text.{Tables, Shape, settings_shape, shapes, shape_size}
use Rattle.text_parts.specs.declared.Shape.{Shape as Part}
use Rattle.text_parts.specs.declared.Cell.{Cell}

abbrev pub tables_of : List ℕ → List ℤ → List ℕ → List ℕ → List ℕ → List ℤ → List ℕ → Tables
tables_of key message commitment rounds challenges last claims =
    record { key = key; message = message; commitment = commitment; rounds = rounds; challenges = challenges; last = last; claims = claims }

abbrev pub as_shape : Part → Shape
as_shape b = record { part = b.part; items = b.items; places = b.places }

unfoldable pub cell_at : ℕ → ℕ → Cell
cell_at places p = record { item = p / places; place = p % places }

unfoldable pub next_cell : ℕ → Cell → Cell
next_cell places c =
    choose
    (leb places c.place)
    c
    (choose
    (ltb (c.place + 1) places)
    (record { item = c.item; place = c.place + 1 })
    (choose (eqb c.item 4_294_967_295) c (record { item = c.item + 1; place = 0 })))

unfoldable pub part_shape : Settings → Parts → ℕ → Shape
part_shape S P part = get_or (shapes S P) part settings_shape

unfoldable pub counted : Settings → Bool
counted S = depth_allowed S && leb S.rows rows_most

unfoldable pub part_of : Settings → Parts → ℕ → Shape
part_of S P part = choose (counted S) (part_shape S P part) settings_shape

abbrev pub table_count : ℕ
table_count = 7

unfoldable pub lengths_of : Tables → List ℕ
lengths_of t =
    length t.key
    ∷ length t.message
    ∷ length t.commitment
    ∷ length t.rounds
    ∷ length t.challenges
    ∷ length t.last
    ∷ length t.claims
    ∷ []

unfoldable pub lengths_are : (ℕ → Shape) → List ℕ → Bool
lengths_are b n = every table_count (λ k. eqb (get_or n k 0) (shape_size (b (k + 1))))

abbrev pub lengths_fit : Settings → Parts → List ℕ → Bool
lengths_fit S P n = lengths_are (part_shape S P) n

pub record Exact (S : Settings) (P : Parts) (t : Tables) : Type 0 where
  pub key : length t.key ≡ shape_size (part_shape S P 1)
  pub message : length t.message ≡ shape_size (part_shape S P 2)
  pub commitment : length t.commitment ≡ shape_size (part_shape S P 3)
  pub rounds : length t.rounds ≡ shape_size (part_shape S P 4)
  pub challenges : length t.challenges ≡ shape_size (part_shape S P 5)
  pub last : length t.last ≡ shape_size (part_shape S P 6)
  pub claims : length t.claims ≡ shape_size (part_shape S P 7)

-- key, commitment, rounds and claims are residues, the message is within the bound, challenges are exponents
unfoldable pub tested_by : ℕ → ℕ
tested_by k = get_or (8 ∷ 9 ∷ 8 ∷ 8 ∷ 10 ∷ 0 ∷ 8 ∷ []) k 0

abbrev pub test_number : Option Refusal → ℕ
test_number (Some r) = number r
test_number None = 0

-- ---- rooms

-- a line has at least eight bytes
abbrev pub values_room : ℕ
values_room = 8_192

-- a line for each number
abbrev pub cells_room : ℕ
cells_room = values_room

-- a text has no lines for more
abbrev pub lent_cells : ℕ → ℕ
lent_cells n = min n cells_room
