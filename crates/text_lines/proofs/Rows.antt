-- Lines read from a place of a text on: bytes, columns, a line by its columns, and all lines up to the end.
--
--   bind-some, bind-none      a step after one that gave something, and after one that gave nothing
--   present-..                what `present` says
--   byte-..                   a byte at a place
--   column-..                 a column: a number and the space behind it
--   line₁ .. line₄            the rest of a line, after its first column and so on
--   line-columns              a line by its columns
--   line_found, line_missed   what the line reader's answer says
--   ..-both                   an answer, and its number and values
--   all-..                    all lines, one after the other
use mathlib.Core.Path.{◌≡◌, refl, sym, ap, subst, ◌∙◌}
use mathlib.Core.Bool.{Bool, true, false, false≢true}
use mathlib.Core.List.{List, [], ◌∷◌}
use mathlib.Core.Option.{Option, none, some, bind, some-injective}
use Prim.Native.Nat.{ℕ, zero, suc, ◌+◌, ◌-◌, ◌≤◌, ◌<◌}
use native.Mathlib.Omega.{arith}
use lib.Dec.{eqb}
use lib.ListN.{length, get_or, drop, length-drop}
use lib.IntN.{ℤ, pos}
use Rattle.protocol.specs.Answers.Number.{Value, Refused}
use Rattle.protocol.specs.Answers.{Entry}
use Rattle.text_format.specs.Text.{Line, space, line_feed, narrow_limit, limit_of, keep, proper_digits, read_count, read_number, byte, read_index, read_line, read_lines}
use Rattle.protocol.specs.Answers.Entry.{Found as Line-at, Malformed}
use Rattle.text_format.specs.Lines.{present, read_index_at, line_reading, given_line, line_answer, read_line_at, all_lines}
use Rattle.text_format.proofs.Answers.{line_given}
use Rattle.text_parts.proofs.From.{from_cons}
use Rattle.text_format.proofs.NumeralLaws.{keep_some}
use Rattle.text_lines.proofs.Counts.{Suffix, suffix-self, suffix_more, suffix_of, Found, found, keep_yes, count_small, count-suffix, count-shorter, number-suffix}
use Rattle.text_lines.proofs.Counts.{number-shorter, plain-found, plain-missed}

-- ---- steps

module _ {ℓ κ} {A : Type ℓ} {B : Type κ} where
  pub bind-some : (o : Option A) (a : A) (k : A → Option B) → o ≡ some a → bind o k ≡ k a
  unfolding bind
  bind-some o a k e = ap (λ x. bind x k) e

  pub bind-none : (o : Option A) (k : A → Option B) → o ≡ none → bind o k ≡ none
  unfolding bind
  bind-none o k e = ap (λ x. bind x k) e

  pub bind-value : (o : Option A) (k : A → Option B) (b : B) → bind o k ≡ some b → (a : A) × (o ≡ some a) × (k a ≡ some b)
  unfolding bind
  bind-value none k b e = let z : ◌≡◌ {A = ℕ} 0 1 = cc in absurd (omega arith)
  bind-value (some a) k b e = (a, refl, e)

module _ {ℓ} {A : Type ℓ} where
  pub present-keep : (b : Bool) (x : A) → present (keep b x) ≡ b
  unfolding present keep
  present-keep true x = refl
  present-keep false x = refl

  pub present-none : (o : Option A) → present o ≡ false → o ≡ none
  unfolding present
  present-none none e = refl
  present-none (some a) e = absurd (false≢true (sym e))

  pub present-bind {κ} : {B : Type κ} (o : Option A) (f : A → B) → present (bind o (λ a. some (f a))) ≡ present o
  unfolding present bind
  present-bind none f = refl
  present-bind (some a) f = refl

-- ---- bytes

module _ (c : ℕ) (text : List ℕ) (at : ℕ) where
  pub byte_inside : at < length text → byte c (drop at text) ≡ keep (eqb (get_or text at 0) c) (drop (at + 1) text)
  unfolding byte
  byte_inside h = ap (byte c) (from_cons text at 0 h)

byte-value : (c : ℕ) (bs rest : List ℕ) → byte c bs ≡ some rest → (b : ℕ) × (bs ≡ b ∷ rest)
unfolding byte
byte-value c [] rest e = let z : ◌≡◌ {A = ℕ} 0 1 = cc in absurd (omega arith)
byte-value c (b ∷ bs) rest e = (b, (λ j. b ∷ (keep_some (eqb b c) bs rest e).1 j))

byte-suffix : (c : ℕ) (bs rest : List ℕ) → byte c bs ≡ some rest → Suffix rest bs
byte-suffix c bs rest e = let (b, p) = byte-value c bs rest e in subst (Suffix rest) (sym p) (suffix_more b (suffix-self rest))

byte-shorter : (c : ℕ) (bs rest : List ℕ) → byte c bs ≡ some rest → length rest + 1 ≤ length bs
byte-shorter c bs rest e = let (b, p) = byte-value c bs rest e in omega (arith, ap length p)

some_byte : (c : ℕ) (bs : List ℕ) → present (byte c bs) ≡ true → 0 < length bs
unfolding byte present
some_byte c [] t = absurd (false≢true t)
some_byte c (b ∷ bs) t = omega arith

module _ (c : ℕ) (text : List ℕ) (at : ℕ) (t : present (byte c (drop at text)) ≡ true) where
  pub byte-place : at < length text
  byte-place = omega (arith, some_byte c (drop at text) t, length-drop at text)

  pub byte-stands : byte c (drop at text) ≡ some (drop (at + 1) text)
  byte-stands = byte_inside c text at byte-place ∙ keep_yes _ _ (sym (present-keep _ (drop (at + 1) text)) ∙ ap present (sym (byte_inside c text at byte-place)) ∙ t)

-- ---- columns

pub column_uncounted : (bs : List ℕ) → read_count narrow_limit bs ≡ none → read_index bs ≡ none
unfolding read_index bind
column_uncounted bs e = bind-none (read_count narrow_limit bs) _ e

module _ (bs : List ℕ) (n : ℕ) (behind : List ℕ) (e : read_count narrow_limit bs ≡ some (n, behind)) where
  column-counted : read_index bs ≡ bind (byte space behind) (λ rest. some (n, rest))
  unfolding read_index
  column-counted = bind-some (read_count narrow_limit bs) (n, behind) _ e

  pub column_unspaced : byte space behind ≡ none → read_index bs ≡ none
  column_unspaced f = column-counted ∙ bind-none (byte space behind) _ f

  pub column-read : (rest : List ℕ) → byte space behind ≡ some rest → read_index bs ≡ some (n, rest)
  column-read rest f = column-counted ∙ bind-some (byte space behind) rest _ f

-- a column that was read is a number, with a space behind it
abbrev spaced : ℕ → Option (List ℕ) → Option (ℕ × List ℕ)
spaced m o = bind o (λ end. some (m, end))

abbrev counted : Option (ℕ × List ℕ) → Option (ℕ × List ℕ)
counted o = bind o (λ r. spaced r.0 (byte space r.1))

spaced-value : (m n : ℕ) (rest : List ℕ) (o : Option (List ℕ)) → spaced m o ≡ some (n, rest) → (m ≡ n) × (o ≡ some rest)
unfolding bind
spaced-value m n rest none e = let z : ◌≡◌ {A = ℕ} 0 1 = cc in absurd (omega arith)
spaced-value m n rest (some end) e =
    let same : ◌≡◌ {A = ℕ × List ℕ} (m, end) (n, rest) = some-injective (m, end) (n, rest) e in
    (ap (λ r. r.0) same, (λ j. some (same j).1))

counted-value : (n : ℕ) (rest : List ℕ) (o : Option (ℕ × List ℕ)) → counted o ≡ some (n, rest) → (behind : List ℕ) × (o ≡ some (n, behind)) × (byte space behind ≡ some rest)
unfolding bind
counted-value n rest none e = let z : ◌≡◌ {A = ℕ} 0 1 = cc in absurd (omega arith)
counted-value n rest (some (m, behind)) e = let s = spaced-value m n rest (byte space behind) e in (behind, (λ j. some (s.0 j, behind)), s.1)

column-value : (bs : List ℕ) (n : ℕ) (rest : List ℕ) → read_index bs ≡ some (n, rest) → (behind : List ℕ) × (read_count narrow_limit bs ≡ some (n, behind)) × (byte space behind ≡ some rest)
unfolding read_index
column-value bs n rest e = counted-value n rest (read_count narrow_limit bs) e

pub column-suffix : (bs : List ℕ) (n : ℕ) (rest : List ℕ) → read_index bs ≡ some (n, rest) → Suffix rest bs
column-suffix bs n rest e =
    let (behind, p, q) = column-value bs n rest e in
    suffix_of (byte-suffix space behind rest q) (count-suffix narrow_limit bs n behind p)

column-shorter : (bs : List ℕ) (n : ℕ) (rest : List ℕ) → read_index bs ≡ some (n, rest) → length rest + 2 ≤ length bs
column-shorter bs n rest e =
    let (behind, p, q) = column-value bs n rest e in
    omega (arith, byte-shorter space behind rest q, count-shorter narrow_limit bs n behind p)

pub column_small : (bs : List ℕ) (n : ℕ) (rest : List ℕ) → read_index bs ≡ some (n, rest) → n ≤ narrow_limit
column_small bs n rest e = let (behind, p, q) = column-value bs n rest e in count_small narrow_limit bs n behind p

-- what an answer says of a column
module _ (text : List ℕ) (at : ℕ) where
  pub columned : (v : ℤ) (next : ℕ) → read_index_at text at ≡ Value v next → (n : ℕ) × (v ≡ pos n) × Found read_index text at n next
  unfolding read_index_at
  columned = plain-found read_index column-suffix text at

  pub uncolumned : (number : ℕ) → read_index_at text at ≡ Refused number → read_index (drop at text) ≡ none
  unfolding read_index_at
  uncolumned = plain-missed read_index column-suffix text at

-- ---- a line

abbrev pub line : ℕ → ℕ → ℕ → ℤ → Line
line part item place value = record { spot = record { part = part; item = item; place = place }; value = value }

unfoldable pub line₄ : ℕ → ℕ → ℕ → ℤ × List ℕ → Option (Line × List ℕ)
line₄ part item place r = bind (byte line_feed r.1) (λ end. some (line part item place r.0, end))

unfoldable pub line₃ : ℕ → ℕ → ℕ × List ℕ → Option (Line × List ℕ)
line₃ part item r = bind (read_number (limit_of part) r.1) (line₄ part item r.0)

unfoldable pub line₂ : ℕ → ℕ × List ℕ → Option (Line × List ℕ)
line₂ part r = bind (read_index r.1) (line₃ part r.0)

unfoldable pub line₁ : ℕ × List ℕ → Option (Line × List ℕ)
line₁ r = bind (read_index r.1) (line₂ r.0)

pub line-columns : (bs : List ℕ) → read_line bs ≡ bind (read_index bs) line₁
unfolding read_line line₁ line₂ line₃ line₄
line-columns bs = refl

-- a line that was read, by its columns
record Columns (bs : List ℕ) (l : Line) (rest : List ℕ) : Type 0 where
  item_on : List ℕ
  place_on : List ℕ
  value_on : List ℕ
  behind : List ℕ
  part_is : read_index bs ≡ some (l.spot.part, item_on)
  item_is : read_index item_on ≡ some (l.spot.item, place_on)
  place_is : read_index place_on ≡ some (l.spot.place, value_on)
  value-is : read_number (limit_of l.spot.part) value_on ≡ some (l.value, behind)
  end_is : byte line_feed behind ≡ some rest

ended-value : (m l : Line) (rest : List ℕ) (o : Option (List ℕ)) → ◌≡◌ {A = Option (Line × List ℕ)} (bind o (λ end. some (m, end))) (some (l, rest)) → (m ≡ l) × (o ≡ some rest)
unfolding bind
ended-value m l rest none e = let z : ◌≡◌ {A = ℕ} 0 1 = cc in absurd (omega arith)
ended-value m l rest (some end) e =
    let same : ◌≡◌ {A = Line × List ℕ} (m, end) (l, rest) = some-injective (m, end) (l, rest) e in
    (ap (λ r. r.0) same, (λ j. some (same j).1))

module _ (bs : List ℕ) (l : Line) (rest : List ℕ) (e : read_line bs ≡ some (l, rest)) where
  columns₄ : (part item place : ℕ) (item_on place_on value_on : List ℕ) (r : ℤ × List ℕ) → read_index bs ≡ some (part, item_on) → read_index item_on ≡ some (item, place_on)
      → read_index place_on ≡ some (place, value_on) → read_number (limit_of part) value_on ≡ some r → line₄ part item place r ≡ some (l, rest) → Columns bs l rest
  unfolding line₄
  columns₄ part item place item_on place_on value_on r p i k v f =
      let (same, end) = ended-value (line part item place r.0) l rest (byte line_feed r.1) f in
      record {
        item_on = item_on;
        place_on = place_on;
        value_on = value_on;
        behind = r.1;
        part_is = p ∙ (λ j. some ((same j).spot.part, item_on));
        item_is = i ∙ (λ j. some ((same j).spot.item, place_on));
        place_is = k ∙ (λ j. some ((same j).spot.place, value_on));
        value-is = ap (λ m. read_number (limit_of m.spot.part) value_on) (sym same) ∙ v ∙ (λ j. some ((same j).value, r.1));
        end_is = end;
      }

  columns : Columns bs l rest
  unfolding line₁ line₂ line₃
  columns =
      let (p, p-is, p-then) = bind-value (read_index bs) line₁ (l, rest) (sym (line-columns bs) ∙ e) in
      let (i, i-is, i-then) = bind-value (read_index p.1) (line₂ p.0) (l, rest) p-then in
      let (k, k-is, k-then) = bind-value (read_index i.1) (line₃ p.0 i.0) (l, rest) i-then in
      let (v, v_is, v-then) = bind-value (read_number (limit_of p.0) k.1) (line₄ p.0 i.0 k.0) (l, rest) k-then in
      columns₄ p.0 i.0 k.0 p.1 i.1 k.1 v p-is i-is k-is v_is v-then

  pub line_suffix : Suffix rest bs
  line_suffix =
      suffix_of (byte-suffix line_feed columns.behind rest columns.end_is)
      (suffix_of (number-suffix (limit_of l.spot.part) columns.value_on l.value columns.behind columns.value-is)
      (suffix_of (column-suffix columns.place_on l.spot.place columns.value_on columns.place_is)
      (suffix_of (column-suffix columns.item_on l.spot.item columns.place_on columns.item_is)
      (column-suffix bs l.spot.part columns.item_on columns.part_is))))

  -- a line has at least eight bytes: four digits, three spaces and a line feed
  pub line_shorter : length rest + 8 ≤ length bs
  line_shorter =
      omega (
        arith,
        byte-shorter line_feed columns.behind rest columns.end_is,
        number-shorter (limit_of l.spot.part) columns.value_on l.value columns.behind columns.value-is,
        column-shorter columns.place_on l.spot.place columns.value_on columns.place_is,
        column-shorter columns.item_on l.spot.item columns.place_on columns.item_is,
        column-shorter bs l.spot.part columns.item_on columns.part_is,
      )

-- ---- what the line reader's answer says

module _ (text : List ℕ) (at : ℕ) where
  answer_line : (o : Option (Line × List ℕ)) (p i k : ℕ) (v : ℤ) (next : ℕ) → line_answer text o ≡ Line-at p i k v next
      → (rest : List ℕ) × (o ≡ some (line p i k v, rest)) × (next ≡ length text - length rest)
  unfolding line_answer
  answer_line none p i k v next e = let z : ◌≡◌ {A = ℕ} 0 1 = cc in absurd (omega arith)
  answer_line (some (l, rest)) p i k v next e =
      let p-is : l.spot.part ≡ p = cc in
      let i-is : l.spot.item ≡ i = cc in
      let k-is : l.spot.place ≡ k = cc in
      let v_is : l.value ≡ v = cc in
      (rest, (λ j. some (line (p-is j) (i-is j) (k-is j) (v_is j), rest)), cc)

  answer_malformed : (o : Option (Line × List ℕ)) → line_answer text o ≡ Malformed → o ≡ none
  unfolding line_answer
  answer_malformed none e = refl
  answer_malformed (some (l, rest)) e = let z : ◌≡◌ {A = ℕ} 0 1 = cc in absurd (omega arith)

  pub line_found : (p i k : ℕ) (v : ℤ) (next : ℕ) → read_line_at text at ≡ Line-at p i k v next → Found read_line text at (line p i k v) next
  unfolding read_line_at
  line_found p i k v next e =
      let (rest, o, q) = answer_line (read_line (drop at text)) p i k v next e in
      subst (Found read_line text at (line p i k v)) (sym q) (found read_line text at (line p i k v) rest (line_suffix (drop at text) (line p i k v) rest o) o)

  pub line_missed : read_line_at text at ≡ Malformed → read_line (drop at text) ≡ none
  unfolding read_line_at
  line_missed e = answer_malformed (read_line (drop at text)) e

  pub line_both : (r : Entry) → r ≡ read_line_at text at → (r ≡ read_line_at text at) × (line_reading r ≡ given_line text (read_line (drop at text)))
  unfolding read_line_at
  line_both r e = (e, ap line_reading e ∙ line_given text (read_line (drop at text)))

-- ---- all lines

-- what is read does not depend on the number of turns, where there are enough
turns-line : (k m : ℕ) (o : Option (Line × List ℕ)) → ((l : Line) (rest : List ℕ) → o ≡ some (l, rest) → read_lines k rest ≡ read_lines m rest)
    → ◌≡◌ {A = Option (List Line)} (bind o (λ r. bind (read_lines k r.1) (λ ls. some (r.0 ∷ ls)))) (bind o (λ r. bind (read_lines m r.1) (λ ls. some (r.0 ∷ ls))))
unfolding bind
turns-line k m none same = refl
turns-line k m (some (l, rest)) same = ap (λ o. bind o (λ ls. some (l ∷ ls))) (same l rest refl)

turns-enough : (k m : ℕ) (bs : List ℕ) → length bs < k → length bs < m → read_lines k bs ≡ read_lines m bs
unfolding read_lines
turns-enough zero m bs h i = absurd (omega arith)
turns-enough (suc k) zero bs h i = absurd (omega arith)
turns-enough (suc k) (suc m) [] h i = refl
turns-enough (suc k) (suc m) (b ∷ bs) h i =
    turns-line k m (read_line (b ∷ bs)) (λ l rest e. turns-enough k m rest (omega (arith, line_shorter (b ∷ bs) l rest e)) (omega (arith, line_shorter (b ∷ bs) l rest e)))

pub all_turns : (k : ℕ) (bs : List ℕ) → length bs < k → read_lines k bs ≡ all_lines bs
unfolding all_lines
all_turns k bs h = turns-enough k (suc (length bs)) bs h (omega arith)

pub all_end : all_lines [] ≡ some []
unfolding all_lines read_lines
all_end = refl

line-empty : read_line [] ≡ none
unfolding read_line read_index read_count proper_digits keep bind
line-empty = refl

all_turn : (b : ℕ) (bs : List ℕ) → all_lines (b ∷ bs) ≡ bind (read_line (b ∷ bs)) (λ r. bind (read_lines (suc (length bs)) r.1) (λ ls. some (r.0 ∷ ls)))
unfolding all_lines read_lines
all_turn b bs = refl

pub all_next : (bs : List ℕ) (l : Line) (rest : List ℕ) → read_line bs ≡ some (l, rest) → all_lines bs ≡ bind (all_lines rest) (λ ls. some (l ∷ ls))
all_next [] l rest e = let z : ◌≡◌ {A = ℕ} 0 1 = cc line-empty in absurd (omega arith)
all_next (b ∷ bs) l rest e =
    all_turn b bs ∙ bind-some (read_line (b ∷ bs)) (l, rest) _ e
    ∙ ap (λ o. bind o (λ ls. some (l ∷ ls))) (all_turns (suc (length bs)) rest (omega (arith, line_shorter (b ∷ bs) l rest e)))

pub all_none : (bs : List ℕ) → 0 < length bs → read_line bs ≡ none → all_lines bs ≡ none
all_none [] h e = absurd (omega arith)
all_none (b ∷ bs) h e = all_turn b bs ∙ bind-none (read_line (b ∷ bs)) _ e

-- the first of the lines that were read
pub all_some : (bs : List ℕ) (l : Line) (ls : List Line) → all_lines bs ≡ some (l ∷ ls) → (rest : List ℕ) × (read_line bs ≡ some (l, rest)) × (all_lines rest ≡ some ls)
unfolding bind
all_some [] l ls e = let z : ◌≡◌ {A = ℕ} 0 1 = cc all_end in absurd (omega arith)
all_some (b ∷ bs) l ls e = of_line (read_line (b ∷ bs)) refl
  where
    of_lines : (m : Line) (rest : List ℕ) → read_line (b ∷ bs) ≡ some (m, rest) → (o : Option (List Line)) → all_lines rest ≡ o → bind o (λ ms. some (m ∷ ms)) ≡ some (l ∷ ls)
        → (rest : List ℕ) × (read_line (b ∷ bs) ≡ some (l, rest)) × (all_lines rest ≡ some ls)
    of_lines m rest p none q f = let z : ◌≡◌ {A = ℕ} 0 1 = cc in absurd (omega arith)
    of_lines m rest p (some ms) q f =
        let m-is : m ≡ l = cc in
        let ms-is : ms ≡ ls = cc in
        (rest, p ∙ (λ j. some (m-is j, rest)), q ∙ (λ j. some (ms-is j)))

    of_line : (o : Option (Line × List ℕ)) → read_line (b ∷ bs) ≡ o → (rest : List ℕ) × (read_line (b ∷ bs) ≡ some (l, rest)) × (all_lines rest ≡ some ls)
    of_line none p = let z : ◌≡◌ {A = ℕ} 0 1 = cc (all_none (b ∷ bs) (omega arith) p) in absurd (omega arith)
    of_line (some (m, rest)) p = of_lines m rest p (all_lines rest) refl (sym (all_next (b ∷ bs) m rest p) ∙ e)
