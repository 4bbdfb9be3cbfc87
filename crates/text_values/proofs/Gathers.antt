-- What the readers of all values promise.
--
--   values-present       lines at wanted spots up to the end are of the stated shape
--   followed-..          the reader of the lines behind the settings
--   gathered-..          the reader of all values
use Rattle.std.specs.Prelude.{Option, Some, None}
use mathlib.Core.Path.{◌≡◌, sym, ap, subst, ◌∙◌}
use mathlib.Core.Bool.{Bool, true, false, ◌&&◌, false≢true}
use mathlib.Core.List.{List, [], ◌∷◌}
use mathlib.Core.Option.{some}
use Prim.Native.Nat.{ℕ, ◌-◌, ◌≤◌, ◌<◌}
use native.Mathlib.Omega.{arith}
use borrow.Author.Tests.{eqb-true}
use lib.Dec.{eqb}
use lib.ListN.{length, drop, take, length-map}
use lib.IntN.{ℤ}
use Rattle.protocol.specs.declared.Parts.{Parts}
use Rattle.protocol.specs.Answers.{Loaded}
use Rattle.protocol.specs.Basic.{choose, unless}
use Rattle.protocol.specs.Settings.{settings_refusal}
use Rattle.text_format.specs.Text.{Spot, Line, text_limit, lines_of, spots_of, values_of, settings_in, no_settings, look_refusal, loaded, look_answer}
use Rattle.protocol.proofs.Refusals.{first_stops, first_passes, first_only}
use Rattle.text_format.specs.Lines.{present, read_values, all_lines, settings_of, read_settings}
use Rattle.text_lines.specs.Header.{header_answer}
use Rattle.text_parts.specs.Parts.{lengths_fit}
use Rattle.text_values.specs.Parts.{part_spots, Took}
use Rattle.text_lines.specs.declared.header.Begun.{Begun}
use Rattle.text_values.specs.Stored.{columns_in, in_order, lines_refusal, First, Followed, Gathered}
use Rattle.text_lines.proofs.Counts.{suffix-length}
use Rattle.text_lines.proofs.Rows.{all_end}
use Rattle.text_values.proofs.Cells.{taken-missed, taken-found}
use Rattle.text_lines.proofs.Follow.{lines_before, values-lines}
use Rattle.text_lines.proofs.Looks.{settled-look, loaded-refused, header-found}
use Rattle.text_lines.proofs.Looked.{Looked, looked, opened, opened_settings, look-number}
use Rattle.text_values.proofs.Orders.{looked-order, looked-columns, order-missed, order-values, order-spots, order-found}

spots-values : (ls : List Line) → length (spots_of ls) ≡ length (values_of ls)
unfolding spots_of values_of
spots-values ls = length-map ls _ ∙ sym (length-map ls _)

-- the lines behind the settings, read from the place that it gave
module _ (text : List ℕ) (P : Parts) (l : Looked text) (b : Begun) (b-is : Some b ≡ header_answer text (read_settings text)) where
  from : drop b.next text ≡ l.rest
  from = ap (λ x. drop x.next text) (opened text l b b-is) ∙ l.begins.place_is

  abbrev wanted_spots : List Spot
  wanted_spots = part_spots (settings_of l.values) P

  module _ (r : Option ℕ) (values : List ℤ) (t : Took text b.next (part_spots b.settings P) r values) where
    took : Took text b.next wanted_spots r values
    took = subst (λ S. Took text b.next (part_spots S P) r values) (opened_settings text l b b-is) t

    missed-order : r ≡ None → false ≡ in_order P text
    missed-order e = sym (looked-order text P l
        ∙ order-missed wanted_spots l.rest l.more l.more_is (ap (read_values wanted_spots) (sym from) ∙ taken-missed text _ (sym e ∙ took.answer)))

    module _ (next : ℕ) (e : r ≡ Some next) where
      read_on : (vs : List ℤ) × (end : List ℕ) × (read_values wanted_spots (drop b.next text) ≡ some (vs, end)) × (next ≡ length text - length end)
      read_on = taken-found text _ next (sym e ∙ took.answer)

      read_rest : read_values wanted_spots l.rest ≡ some (read_on.0, read_on.1)
      read_rest = ap (read_values wanted_spots) (sym from) ∙ read_on.2

      found-order : eqb next (length text) ≡ in_order P text
      found-order =
          order-found wanted_spots l.rest l.more l.more_is read_on.0 read_on.1 read_rest next (length text) (omega (arith, l.begins.shorter)) read_on.3
          ∙ sym (looked-order text P l)

      found-stored : eqb next (length text) ≡ true → First (columns_in (lines_of text)) values
      found-stored f =
          let (vs, end, found, next-is) = read_on in
          let shorter = suffix-length (values-lines wanted_spots l.rest vs end read_rest).ends in
          let nothing : length end ≡ 0 = omega (arith, eqb-true next (length text) f, l.begins.shorter) in
          let spots_are = order-spots wanted_spots l.rest l.more l.more_is vs end read_rest nothing in
          let values_are = order-values wanted_spots l.rest l.more l.more_is vs end read_rest nothing in
          let columns-is : columns_in (lines_of text) ≡ vs = looked-columns text P l spots_are ∙ values_are in
          let count : length wanted_spots ≡ length vs = ap length (sym spots_are) ∙ spots-values l.more ∙ ap length values_are in
          ap (λ (ws : List ℤ). take (length ws) values) columns-is ∙ ap (λ n. take n values) (sym count) ∙ took.stored vs end found ∙ sym columns-is

-- lines at wanted spots up to the end are of the stated shape
values-present : (ss : List Spot) (bs : List ℕ) (vs : List ℤ) (end : List ℕ) → read_values ss bs ≡ some (vs, end) → length end ≡ 0 → present (all_lines bs) ≡ true
unfolding present lines_before
values-present ss bs vs [] e h = let k = values-lines ss bs vs [] e in ap present (k.all_are ∙ ap (lines_before k.lines) all_end)
values-present ss bs vs (b ∷ cs) e h = absurd (omega arith)

-- the reader of the lines behind the settings, by the answer of the reader of the settings
module _ (text : List ℕ) (P : Parts) (b : Begun) (b-is : Some b ≡ header_answer text (read_settings text)) where
  module _ (values : List ℤ) where
    refused-before : (look_refusal text ≡ 0 → ⊥) → Followed P text false values
    refused-before n = record { unrefused = λ f. absurd (false≢true f); answer = λ e. absurd (n e); stored = λ f. absurd (false≢true f) }

    pub followed_long : text_limit < length text → Followed P text false values
    followed_long n = refused-before (λ e. absurd (omega (arith, (looked text e).short)))

    module _ (r : Option ℕ) (t : Took text b.next (part_spots b.settings P) r values) where
      pub followed-missed : r ≡ None → Followed P text false values
      followed-missed f = record {
        unrefused = λ g. absurd (false≢true g);
        answer = λ e. missed-order text P (looked text e) b b-is r values t f;
        stored = λ g. absurd (false≢true g);
      }

      module _ (short : length text ≤ text_limit) (allowed : settings_refusal b.settings ≡ 0) (next : ℕ) (f : r ≡ Some next) where
        ended-unrefused : eqb next (length text) ≡ true → look_refusal text ≡ 0
        unfolding choose
        ended-unrefused g =
            let (vs, rest, begins, settings-is, place_is) = header-found text b b-is in
            let (ws, end, read, next-is) = taken-found text _ next (sym f ∙ t.answer) in
            let on : read_values (part_spots b.settings P) rest ≡ some (ws, end) = ap (read_values (part_spots b.settings P)) (sym place_is) ∙ read in
            let shorter = suffix-length (values-lines (part_spots b.settings P) rest ws end on).ends in
            let nothing : length end ≡ 0 = omega (arith, eqb-true next (length text) g, begins.shorter) in
            settled-look text vs rest begins short
            ∙ ap (λ p. choose p (settings_refusal (settings_of vs)) 2) (values-present (part_spots b.settings P) rest ws end on nothing)
            ∙ ap settings_refusal (sym settings-is) ∙ allowed

        pub followed-found : Followed P text (eqb next (length text)) values
        followed-found = record {
          unrefused = ended-unrefused;
          answer = λ e. found-order text P (looked text e) b b-is r values t next f;
          stored = λ g. found-stored text P (looked text (ended-unrefused g)) b b-is r values t next f g;
        }

-- refusals 1 to 7, after a first look
module _ (P : Parts) (n : List ℕ) (text : List ℕ) (r : Loaded) (r-is : r ≡ look_answer text) (values : List ℤ) where
  abbrev number_is : r.refusal ≡ look_refusal text
  number_is = look-number text r r-is

  pub gathered-look : (r.refusal ≡ 0 → ⊥) → Gathered P n text r values
  unfolding lines_refusal look_answer
  gathered-look h =
      let same : lines_refusal P n text ≡ look_refusal text = first_stops _ _ (λ e. h (number_is ∙ e)) in
      record { answer = r-is ∙ ap (λ m. loaded m text) (sym same); stored = λ e. absurd (h (number_is ∙ sym same ∙ e)) }

  module _ (e : r.refusal ≡ 0) where
    behind_look : (b : Bool) → (in_order P text && lengths_fit (settings_in (lines_of text)) P n) ≡ b → lines_refusal P n text ≡ unless 7 b
    unfolding lines_refusal
    behind_look b h = first_passes _ _ (sym number_is ∙ e) ∙ first_only _ ∙ ap (unless 7) h

    pub gathered_refused : (r₇ : Loaded) → r₇ ≡ record { refusal = 7; settings = no_settings } → (in_order P text && lengths_fit (settings_in (lines_of text)) P n) ≡ false → Gathered P n text r₇ values
    unfolding unless
    gathered_refused r₇ f h =
        let seven : lines_refusal P n text ≡ 7 = behind_look false h in
        record { answer = loaded-refused text r₇ 7 (lines_refusal P n text) f seven (λ z. absurd (omega arith)); stored = λ z. absurd (omega arith) }

    pub gathered_granted : (in_order P text && lengths_fit (settings_in (lines_of text)) P n) ≡ true → First (columns_in (lines_of text)) values → Gathered P n text r values
    unfolding unless look_answer
    gathered_granted h s = record { answer = r-is ∙ ap (λ m. loaded m text) (sym number_is ∙ e ∙ sym (behind_look true h)); stored = λ _. s }
