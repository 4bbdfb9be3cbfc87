-- PROTOCOL 9: numbers, lines and tables as bytes, written and read. A text is the list of its bytes.
-- Reader and writer go by one description of the parts, `shapes`. A reader gives what it read with the bytes behind it, or nothing.
--
-- Written
--   text_limit                     the longest text
--   value_limit, narrow_limit      the largest magnitude of a value, and of every other number, in a text
--   limit_of part                  the largest magnitude of a value in a line of this part
--   line_feed, space, minus, ..    bytes by name
--   bytes s                        the bytes of a quoted text (each of its characters has one byte)
--   names                          the names line
--   digit_count n, low_digits k n  how many digits n has, and its last k digits
--   decimal n, numeral z           a number from 0 on, and any number, as text
--   Spot, Line                     where a line stands (part, item, place); a line: its spot and its value
--   line_text l, lines_text ls     the text of a line, and of lines
--   Tables                         the seven tables, parts 1 to 7
--   Shape, shape, shape_size       a part's number, items and places; how many lines it has
--   settings_shape, shapes S P     the shape of part 0, and the shapes of all parts of a text
--   spot_at b p, spots b           the spot of line p of a part, and the spots of all its lines
--   wanted S P                     the spots of a whole text, in order
--   settings_values S, contents S t  the values of part 0, and of parts 0 to 7
--   Block, block, blocks S P t    a part's shape with its values; all parts of the tables t
--   block_lines b                 the lines of a part
--   text_of S P t                 the text of the tables t
--   block_fits b, fits S P t      has a part as many values as lines; has every table its length
-- Read
--   keep b a                      a where the test b passes, else nothing
--   digit b, digit_first bs       is b the byte of a digit; does one stand here
--   digit_run n bs                the number whose digits stand here, n being what stood before, and the bytes behind it
--   proper_digits bs              do digits stand here, with no leading zero
--   read_count most bs            the number from 0 to `most` that stands here, with the bytes behind it
--   plain r, negative r           what was read, with no sign before it, and with a minus before it
--   read_number most bs           the number from −most to `most` that stands here, with the bytes behind it
--   byte c bs                     the bytes behind a byte c
--   read_index bs                 a part, an item or a place and a space, with the bytes behind it
--   read_line, read_lines         a line with the bytes behind it; all lines up to the end
--   begins cs bs                  do the bytes bs begin with the bytes cs
--   begins_with_names text        does a text begin with the names line
--   parsed text, lines_of text    the lines of values, or nothing where a line is not of the stated shape
--   spots_of ls, values_of ls     the spots and the values of lines
--   same_spot, same_spots         are two spots the same; are these the same spots in the same order
--   well_formed text              is every line of the stated shape, and are the first five value lines settings
--   unsigned most z               z, or one past `most` where z is not from 0 to `most`
--   column p                      the values of part p
--   unsigned_column most p        the same as numbers from 0 on
--   setting_in most, settings_in  the value of a settings line, and the settings
--   tables_in ls                  the seven tables in the lines
-- The calls
--   no_settings                    five zeros
--   loaded N text                  the reader's answer for a refusal N
--   look_refusal, look_answer      a first look at a text's settings
--   entries_refusal                refusals 8, 9 and 10, which reader and writer share
--   text_refusal, read_refusal     the reader's refusals, for a text alone and with the lent tables
--   read_answer, read_exit         the reader's answer, and the seven tables as it leaves them
--   output_refusal, write_refusal  the writer's last refusals, and all of them, for an output slice of `room` bytes
--   written, overwritten           an answer, and an output slice, for a refusal and a text
--   write_answer, write_exit       the writer's answer, and its output slice as it leaves it
--   Reading, reading r             the refusal's number and the values for each case of the number reader's answer
--   number_answer                  what was read, as that answer
--   read_number_at, read_count_at  the number readers as calls on a limit, a text and a place
use Rattle.std.specs.Prelude.{Bool, true, false, ◌&&◌, not, ℕ, zero, suc, ◌+◌, ◌*◌, ◌-◌, ◌/◌, ◌%◌, ◌^◌, min, leb, ltb, eqb, length, get_or, take, drop, ℤ, pos, negsuc, neg_ℤ}
use mathlib.Core.List.{List, [], ◌∷◌, ◌++◌, map, flat_map, zip_with}
use Rattle.std.proofs.Math.Option
use Rattle.std.proofs.Math.Option.{Option, none, some, bind as ◌>>=◌}
use Prim.Native.Char.{code}
use Prim.Native.String.{String, [] as end, ◌∷◌ as ◌then◌}
use Rattle.protocol.specs.declared.Settings.{Settings}
use Rattle.protocol.specs.declared.Parts.{Parts}
unfoldable pub use Rattle.protocol.specs.Answers.{no_settings}
use Rattle.protocol.specs.Answers.{Loaded}
use Rattle.protocol.specs.Answers.{Written}
use Rattle.protocol.specs.Answers.{Number}
use Rattle.protocol.specs.Answers.Number.{Value, Refused}
use Rattle.protocol.specs.Layout.{key_items, round_items, claim_items}
use Rattle.protocol.specs.Basic.{least, tabulate, all, among, choose, within, first, unless, granted}
use Rattle.protocol.specs.Settings.{settings_refusal, size, has_length, all_below, exponents, all_within}

-- PROTOCOL 7.1, refusal 1
unfoldable pub text_limit : ℕ
text_limit = 65_536

-- PROTOCOL 9.1: below 2^61
unfoldable pub value_limit : ℕ
value_limit = 2_305_843_009_213_693_951

-- PROTOCOL 9.1: below 2^31
unfoldable pub narrow_limit : ℕ
narrow_limit = 2_147_483_647

-- PROTOCOL 9.1: messages, challenges and final elements have 32 bits, whether or not their lines are wanted
unfoldable pub limit_of : ℕ → ℕ
limit_of part = choose (among part (2 ∷ 5 ∷ 6 ∷ [])) narrow_limit value_limit

abbrev pub line_feed : ℕ
line_feed = 10

abbrev pub space : ℕ
space = 32

abbrev pub minus : ℕ
minus = 45

abbrev pub zero_digit : ℕ
zero_digit = 48

-- every quoted text here is ASCII, so that a character's code is its byte
unfoldable pub bytes : String → List ℕ
bytes end = []
bytes (c then s) = code c ∷ bytes s

-- ---- Written

-- PROTOCOL 9.1: 21 bytes and a line feed
unfoldable pub names : List ℕ
names = bytes "part item place value\n"

-- one digit, and one more for each of 10, 100, .., 10^18 that n reaches: no number here has more than nineteen
unfoldable pub digit_count : ℕ → ℕ
digit_count n = suc (least 18 (λ k. ltb n (10 ^ suc k)))

unfoldable pub low_digits : ℕ → ℕ → List ℕ
low_digits zero n = []
low_digits (suc k) n = low_digits k (n / 10) ++ ((zero_digit + n % 10) ∷ [])

-- PROTOCOL 9.1: only the number 0 begins with the digit 0
unfoldable pub decimal : ℕ → List ℕ
decimal n = low_digits (digit_count n) n

-- PROTOCOL 9.1: a minus stands before values alone
unfoldable pub numeral : ℤ → List ℕ
numeral (pos n) = decimal n
numeral (negsuc n) = minus ∷ decimal (suc n)

pub record Spot : Type 0 where
  pub part : ℕ
  pub item : ℕ
  pub place : ℕ

pub record Line : Type 0 where
  pub spot : Spot
  pub value : ℤ

-- PROTOCOL 9.1, a line
unfoldable pub line_text : Line → List ℕ
line_text l =
    decimal l.spot.part
    ++ (space ∷ (decimal l.spot.item ++ (space ∷ (decimal l.spot.place ++ (space ∷ (numeral l.value ++ (line_feed ∷ [])))))))

unfoldable pub lines_text : List Line → List ℕ
lines_text ls = flat_map line_text ls

-- PROTOCOL 9.2: messages and final elements have signs, the other tables none
pub record Tables : Type 0 where
  pub key : List ℕ
  pub message : List ℤ
  pub commitment : List ℕ
  pub rounds : List ℕ
  pub challenges : List ℕ
  pub last : List ℤ
  pub claims : List ℕ

pub record Shape : Type 0 where
  pub part : ℕ
  pub items : ℕ
  pub places : ℕ

-- PROTOCOL 9.2: a part that is not there has no items
unfoldable pub shape : ℕ → Bool → ℕ → ℕ → Shape
shape part there items places = record { part = part; items = choose there items 0; places = places }

-- PROTOCOL 9.2: one item of five places, in every text
unfoldable pub settings_shape : Shape
settings_shape = shape 0 true 1 5

-- PROTOCOL 9.2: the items of a part are elements and their places coefficients, three elements for each round and row, and one, the claim, in part 7; a challenge
-- is an item of one place.
unfoldable pub shapes : Settings → Parts → List Shape
shapes S P =
    settings_shape
    ∷ shape 1 P.key (key_items S) S.degree
    ∷ shape 2 P.message (size S) S.degree
    ∷ shape 3 P.commitment S.rows S.degree
    ∷ shape 4 P.rounds (S.rows * round_items S) S.degree
    ∷ shape 5 P.challenges S.depth 1
    ∷ shape 6 P.last 1 S.degree
    ∷ shape 7 P.claims (claim_items S) S.degree
    ∷ []

unfoldable pub shape_size : Shape → ℕ
shape_size b = b.items * b.places

-- places go round first, then items
unfoldable pub spot_at : Shape → ℕ → Spot
spot_at b p = record { part = b.part; item = p / b.places; place = p % b.places }

unfoldable pub spots : Shape → List Spot
spots b = tabulate (shape_size b) (spot_at b)

-- PROTOCOL 9.3
unfoldable pub wanted : Settings → Parts → List Spot
wanted S P = flat_map spots (shapes S P)

unfoldable pub settings_values : Settings → List ℤ
settings_values S = pos S.degree ∷ pos S.depth ∷ pos S.modulus ∷ pos S.bound ∷ pos S.rows ∷ []

unfoldable pub contents : Settings → Tables → List (List ℤ)
contents S t =
    settings_values S
    ∷ map pos t.key
    ∷ t.message
    ∷ map pos t.commitment
    ∷ map pos t.rounds
    ∷ map pos t.challenges
    ∷ t.last
    ∷ map pos t.claims
    ∷ []

pub record Block : Type 0 where
  pub shape : Shape
  pub values : List ℤ

unfoldable pub block : Shape → List ℤ → Block
block b values = record { shape = b; values = values }

unfoldable pub blocks : Settings → Parts → Tables → List Block
blocks S P t = zip_with block (shapes S P) (contents S t)

unfoldable pub block_lines : Block → List Line
block_lines b = tabulate (shape_size b.shape) (λ p. record { spot = spot_at b.shape p; value = get_or b.values p (pos 0) })

-- PROTOCOL 9.6
unfoldable pub text_of : Settings → Parts → Tables → List ℕ
text_of S P t = names ++ lines_text (flat_map block_lines (blocks S P t))

unfoldable pub block_fits : Block → Bool
block_fits b = has_length (shape_size b.shape) b.values

-- PROTOCOL 7.1, refusal 7: a part that is not there has no values
unfoldable pub fits : Settings → Parts → Tables → Bool
fits S P t = all block_fits (blocks S P t)

-- ---- Read

unfoldable pub keep {ℓ} : {A : Type ℓ} → Bool → A → Option A
keep true a = some a
keep false a = none

unfoldable pub digit : ℕ → Bool
digit b = leb zero_digit b && leb b 57

unfoldable pub digit_run : ℕ → List ℕ → ℕ × List ℕ
digit_run n [] = (n, [])
digit_run n (b ∷ bs) = elim (digit b) [ true ↦ digit_run (n * 10 + (b - zero_digit)) bs | false ↦ (n, b ∷ bs) ]

unfoldable pub digit_first : List ℕ → Bool
digit_first [] = false
digit_first (b ∷ bs) = digit b

-- PROTOCOL 9.1: only the number 0 begins with the digit 0
unfoldable pub proper_digits : List ℕ → Bool
proper_digits [] = false
proper_digits (b ∷ bs) = digit b && not (eqb b zero_digit && digit_first bs)

unfoldable pub read_count : ℕ → List ℕ → Option (ℕ × List ℕ)
read_count most bs = keep (proper_digits bs && leb (digit_run 0 bs).0 most) (digit_run 0 bs)

unfoldable pub plain : Option (ℕ × List ℕ) → Option (ℤ × List ℕ)
plain r = do
  (n, rest) ← r
  some (pos n, rest)

-- PROTOCOL 9.1: 0 has no minus
unfoldable pub negative : Option (ℕ × List ℕ) → Option (ℤ × List ℕ)
negative r = do
  (n, rest) ← r
  keep (not (eqb n 0)) (neg_ℤ (pos n), rest)

-- PROTOCOL 9.1: a minus stands before values alone
unfoldable pub read_number : ℕ → List ℕ → Option (ℤ × List ℕ)
read_number most [] = none
read_number most (b ∷ bs) = elim (eqb b minus) [ true ↦ negative (read_count most bs) | false ↦ plain (read_count most (b ∷ bs)) ]

unfoldable pub byte : ℕ → List ℕ → Option (List ℕ)
byte c [] = none
byte c (b ∷ bs) = keep (eqb b c) bs

-- PROTOCOL 9.1: one space behind it
unfoldable pub read_index : List ℕ → Option (ℕ × List ℕ)
read_index bs = do
  (n, behind) ← read_count narrow_limit bs
  rest ← byte space behind
  some (n, rest)

-- PROTOCOL 9.1, a line
unfoldable pub read_line : List ℕ → Option (Line × List ℕ)
read_line bs = do
  (part, item_on) ← read_index bs
  (item, place_on) ← read_index item_on
  (place, value_on) ← read_index place_on
  (value, behind) ← read_number (limit_of part) value_on
  rest ← byte line_feed behind
  some (record { spot = record { part = part; item = item; place = place }; value = value }, rest)

-- a line has at least one byte, so more turns than there are bytes reach the end
unfoldable pub read_lines : ℕ → List ℕ → Option (List Line)
read_lines zero bs = none
read_lines (suc turns) [] = some []
read_lines (suc turns) (b ∷ bs) = do
  (l, rest) ← read_line (b ∷ bs)
  ls ← read_lines turns rest
  some (l ∷ ls)

unfoldable pub begins : List ℕ → List ℕ → Bool
begins [] text = true
begins (c ∷ cs) [] = false
begins (c ∷ cs) (b ∷ bs) = eqb b c && begins cs bs

-- for every text, also one that ends inside the line: does it begin with the 21 bytes of names and a line feed
unfoldable pub begins_with_names : List ℕ → Bool
begins_with_names text = begins names text

-- PROTOCOL 9.1: bytes that are no text have no lines
unfoldable pub parsed : List ℕ → Option (List Line)
parsed text = elim (begins_with_names text) [ true ↦ read_lines (length text) (drop (length names) text) | false ↦ none ]

unfoldable pub lines_of : List ℕ → List Line
lines_of text = Option.get_or (parsed text) []

unfoldable pub same_spot : Spot → Spot → Bool
same_spot a b = eqb a.part b.part && (eqb a.item b.item && eqb a.place b.place)

unfoldable pub same_spots : List Spot → List Spot → Bool
same_spots [] [] = true
same_spots [] (b ∷ bs) = false
same_spots (a ∷ rest) [] = false
same_spots (a ∷ rest) (b ∷ bs) = same_spot a b && same_spots rest bs

unfoldable pub spots_of : List Line → List Spot
spots_of ls = map (λ (l : Line). l.spot) ls

unfoldable pub values_of : List Line → List ℤ
values_of ls = map (λ (l : Line). l.value) ls

-- PROTOCOL 9.1: the lines of part 0 come first; bytes that are no text fail here, since they have no lines
unfoldable pub well_formed : List ℕ → Bool
well_formed text = same_spots (take (shape_size settings_shape) (spots_of (lines_of text))) (spots settings_shape)

-- PROTOCOL 9.4: a number with a minus, and one past the limit, count as one past the limit, which no setting,
-- residue or exponent reaches
unfoldable pub unsigned : ℕ → ℤ → ℕ
unsigned most (pos n) = min n (suc most)
unsigned most (negsuc n) = suc most

unfoldable pub column : ℕ → List Line → List ℤ
column p [] = []
column p (l ∷ ls) = choose (eqb l.spot.part p) (l.value ∷ column p ls) (column p ls)

unfoldable pub unsigned_column : ℕ → ℕ → List Line → List ℕ
unsigned_column most p ls = map (unsigned most) (column p ls)

unfoldable pub setting_in : ℕ → List Line → ℕ → ℕ
setting_in most ls place = unsigned most (get_or (values_of ls) place (pos 0))

-- PROTOCOL 9.2, part 0: of the settings the modulus alone may be wide
unfoldable pub settings_in : List Line → Settings
settings_in ls = record {
  degree = setting_in narrow_limit ls 0;
  depth = setting_in narrow_limit ls 1;
  modulus = setting_in value_limit ls 2;
  bound = setting_in narrow_limit ls 3;
  rows = setting_in narrow_limit ls 4;
}

unfoldable pub tables_in : List Line → Tables
tables_in ls = record {
  key = unsigned_column value_limit 1 ls;
  message = column 2 ls;
  commitment = unsigned_column value_limit 3 ls;
  rounds = unsigned_column value_limit 4 ls;
  challenges = unsigned_column narrow_limit 5 ls;
  last = column 6 ls;
  claims = unsigned_column value_limit 7 ls;
}

-- ---- The calls

-- refusals 1 and 2 over the whole text, then 3 to 6 and 16
unfoldable pub look_refusal : List ℕ → ℕ
look_refusal text =
    first
    (unless 1 (leb (length text) text_limit)
    ∷ unless 2 (well_formed text)
    ∷ settings_refusal (settings_in (lines_of text))
    ∷ [])

unfoldable pub loaded : ℕ → List ℕ → Loaded
loaded refusal text = record { refusal = refusal; settings = granted refusal (settings_in (lines_of text)) no_settings }

-- a caller learns d, L and the number of rows by it, and then lends tables of exactly their lengths
unfoldable pub look_answer : List ℕ → Loaded
look_answer text = loaded (look_refusal text) text

-- PROTOCOL 9.5 and 9.6: 8 over key, commitment, rounds and claims, 9 over the message, 10 over the challenges;
-- `last_fits` is what 9 asks of the final element: nothing in the reader
unfoldable pub entries_refusal : Settings → Bool → Tables → ℕ
entries_refusal S last_fits t =
    first
    (unless 8 (all_below S t.key && (all_below S t.commitment && (all_below S t.rounds && all_below S t.claims)))
    ∷ unless 9 (all_within S.bound t.message && last_fits)
    ∷ unless 10 (exponents S t.challenges)
    ∷ [])

-- PROTOCOL 9.5: the order over the whole text; `lent` says whether the lent tables
-- have their lengths
unfoldable pub text_refusal : Parts → Bool → List ℕ → ℕ
text_refusal P lent text =
    first
    (look_refusal text
    ∷ unless 7 (same_spots (spots_of (lines_of text)) (wanted (settings_in (lines_of text)) P) && lent)
    ∷ entries_refusal (settings_in (lines_of text)) true (tables_in (lines_of text))
    ∷ [])

unfoldable pub read_refusal : Parts → List ℕ → Tables → ℕ
read_refusal P text t = text_refusal P (fits (settings_in (lines_of text)) P t) text

unfoldable pub read_answer : Parts → List ℕ → Tables → Loaded
read_answer P text t = loaded (read_refusal P text t) text

-- a refused reader leaves the lent tables as they were
unfoldable pub read_exit : Parts → List ℕ → Tables → Tables
read_exit P text t = granted (read_refusal P text t) (tables_in (lines_of text)) t

-- PROTOCOL 9.6: behind all tests of the input
unfoldable pub output_refusal : List ℕ → ℕ → ℕ
output_refusal text room = first (unless 1 (leb (length text) text_limit) ∷ unless 7 (leb (length text) room) ∷ [])

-- PROTOCOL 9.6; −2^31 is the one signed 32-bit number that a text cannot hold
unfoldable pub write_refusal : Settings → Parts → Tables → ℕ → ℕ
write_refusal S P t room =
    first
    (settings_refusal S
    ∷ unless 7 (fits S P t)
    ∷ entries_refusal S (all (within narrow_limit) t.last) t
    ∷ output_refusal (text_of S P t) room
    ∷ [])

-- PROTOCOL 9.6: the bytes that were written
unfoldable pub written : ℕ → List ℕ → Written
written refusal text = record { refusal = refusal; count = granted refusal (length text) 0 }

-- PROTOCOL 9.6: behind the text stands what stood there
unfoldable pub overwritten : ℕ → List ℕ → List ℕ → List ℕ
overwritten refusal text out = granted refusal (text ++ drop (length text) out) out

unfoldable pub write_answer : Settings → Parts → Tables → List ℕ → Written
write_answer S P t out = written (write_refusal S P t (length out)) (text_of S P t)

unfoldable pub write_exit : Settings → Parts → Tables → List ℕ → List ℕ
write_exit S P t out = overwritten (write_refusal S P t (length out)) (text_of S P t) out

pub record Reading : Type 0 where
  pub refusal : ℕ
  pub value : ℤ
  pub next : ℕ

-- PROTOCOL 9.4
unfoldable pub reading : Number → Reading
reading (Value value next) = record { refusal = 0; value = value; next = next }
reading (Refused number) = record { refusal = number; value = pos 0; next = 0 }

-- what was read of a text, with the place where the bytes behind it begin
unfoldable pub number_answer : List ℕ → Option (ℤ × List ℕ) → Number
number_answer text none = Refused 2
number_answer text (some (value, rest)) = Value value (length text - length rest)

unfoldable pub read_number_at : ℕ → List ℕ → ℕ → Number
read_number_at most text at = number_answer text (read_number most (drop at text))

unfoldable pub read_count_at : ℕ → List ℕ → ℕ → Number
read_count_at most text at = number_answer text (plain (read_count most (drop at text)))
