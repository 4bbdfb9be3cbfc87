-- Texts put one behind the other.
--
--   field_room, spot_room, line_room, text_room   the room for a number and the byte behind it, for a spot, for a line, and for the longest text and one line
--   field n behind              a number and the byte behind it
--   spot_text part c            the spot of a line
--   line_at part c value        a line
--   part_text b v               the lines of a part
--   Grows text r text'          what a function promises that makes a text: it is there, or the function is refused since it is too long
use Rattle.std.specs.Prelude.{◌≡◌, List, [], ◌∷◌, ◌++◌, ℕ, ◌+◌, ◌*◌, ◌<◌, length, ℤ, Result, MatchResult}
use Rattle.protocol.specs.declared.Refusal.{Refusal}
use Rattle.protocol.specs.Refusal.{number}
use Rattle.text_format.specs.Text.{Line, Shape, text_limit, space, decimal, lines_text, block, block_lines}
use Rattle.text_parts.specs.declared.Cell.{Cell}

-- nineteen digits and the byte behind them
abbrev pub field_room : ℕ
field_room = 20

abbrev pub spot_room : ℕ
spot_room = 3 * field_room

-- the spot, a minus and the value
abbrev pub line_room : ℕ
line_room = spot_room + 1 + field_room

-- a line is put only where the text is not too long before it
abbrev pub text_room : ℕ
text_room = 65_536 + line_room

unfoldable pub field : ℕ → ℕ → List ℕ
field n behind = decimal n ++ (behind ∷ [])

-- the spot of a line, as it stands at the line's front
unfoldable pub spot_text : ℕ → Cell → List ℕ
spot_text part c = field part space ++ (field c.item space ++ field c.place space)

abbrev pub line_at : ℕ → Cell → ℤ → Line
line_at part c value = record { spot = record { part = part; item = c.item; place = c.place }; value = value }

-- the lines of a part whose values are v
unfoldable pub part_text : Shape → List ℤ → List ℕ
part_text b v = lines_text (block_lines (block b v))

abbrev pub Grows : List ℕ → Result (Unit {0}) Refusal → List ℕ → Type 0
Grows text r text' = MatchResult r (λ _. text' ≡ text) (λ e. (number e ≡ 1) × (text_limit < length text))
