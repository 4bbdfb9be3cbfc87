-- The whole reader: its refusals in two steps, and its tables among the values that were gathered.
--
--   read-stops        a text that the first step refuses
--   read-entries      one that it does not: refusals 8 to 10 decide
--   tables_are        then the values are those of the tables, one table after the other
--   tables-room       and there is room for them
--   read-..           what the reader promises, by what was gathered and by refusals 8 to 10
use mathlib.Core.Path.{◌≡◌, refl, sym, ap, ◌∙◌}
use mathlib.Core.Bool.{true, ◌&&◌}
use mathlib.Core.List.{List, [], ◌∷◌, ◌++◌, map}
use Prim.Native.Nat.{ℕ, zero, suc, ◌+◌, ◌<◌, ◌≤◌}
use native.Mathlib.Numerals.{add-one}
use native.Mathlib.Omega.{arith}
use borrow.Author.Tests.{eqb-true}
use lib.ListN.{length, get_or, drop, length-append, take-append-drop}
use lib.Seq.{ext_get_or}
use lib.IntN.{ℤ}
use Rattle.protocol.specs.declared.Settings.{Settings}
use Rattle.protocol.specs.declared.Parts.{Parts}
use Rattle.protocol.specs.Answers.{Loaded}
use Rattle.protocol.specs.Basic.{first, unless}
use Rattle.protocol.specs.Settings.{settings_refusal}
use Rattle.text_format.specs.Text.{Line, Shape, Tables, value_limit, narrow_limit, shape, settings_shape, shapes, shape_size, wanted, lines_of, unsigned, unsigned_column, settings_in, tables_in, no_settings}
use Rattle.text_format.specs.Text.{look_refusal, loaded, entries_refusal, text_refusal, read_refusal, read_answer, read_exit}
use Rattle.text_format.specs.Promises.{Read}
use Rattle.protocol.proofs.Tests.{and_split, every_at, first_zero, unless-zero, granted-zero, granted_refused}
use Rattle.protocol.proofs.Refusals.{front-stops, front-passes, first_only}
use Rattle.text_format.proofs.TableLaws.{Rising, Fit, parts, columns, read-fit}
use Rattle.text_parts.specs.Parts.{tables_of, table_count, part_shape, lengths_of, lengths_are, lengths_fit}
use Rattle.text_parts.proofs.Exactly.{lengths-fit}
use Rattle.text_values.specs.Stored.{table_parts, columns_in, in_order, lines_refusal, First, Gathered}
use Rattle.text_lines.proofs.Follow.{spots_same}
use Rattle.text_lines.proofs.Looks.{loaded-refused}
use Rattle.text_parts.specs.Flat.{start, total, piece, joined}
use Rattle.text_parts.proofs.Flat.{piece-joined, start-joined}
use Rattle.text_values.proofs.Columns.{behind-rise, columns-flat}
use Rattle.table_reader.specs.Cut.{cut_tables, narrow_tables}
use Rattle.table_reader.proofs.Narrow.{tables-narrow}

-- ---- refusals

module _ (P : Parts) (text : List ℕ) (t : Tables) where
  abbrev ls : List Line
  ls = lines_of text

  abbrev S : Settings
  S = settings_in ls

  -- the refusals of the first step stand before those of the second
  in_steps : read_refusal P text t ≡ first ((look_refusal text ∷ unless 7 (in_order P text && lengths_fit S P (lengths_of t)) ∷ []) ++ (entries_refusal S true (tables_in ls) ∷ []))
  unfolding read_refusal text_refusal in_order
  in_steps = λ j. first (look_refusal text ∷ unless 7 (in_order P text && sym (lengths-fit S P t) j) ∷ entries_refusal S true (tables_in ls) ∷ [])

  pub read-stops : (lines_refusal P (lengths_of t) text ≡ 0 → ⊥) → read_refusal P text t ≡ lines_refusal P (lengths_of t) text
  unfolding lines_refusal
  read-stops h = in_steps ∙ front-stops _ _ h

  pub read-entries : lines_refusal P (lengths_of t) text ≡ 0 → read_refusal P text t ≡ entries_refusal S true (tables_in ls)
  unfolding lines_refusal
  read-entries e = in_steps ∙ front-passes _ _ e ∙ first_only _

-- ---- the tables of a text among its values

fit_long : (bs : List Shape) (vs : List (List ℤ)) (z : Shape) → Fit bs vs → (k : ℕ) → k < length bs → get_or (map length vs) k 0 ≡ shape_size (get_or bs k z)
fit_long [] vs z f k h = absurd (omega arith)
fit_long (b ∷ bs) [] z f k h = absurd f
fit_long (b ∷ bs) (v ∷ vs) z f zero h = f.0
fit_long (b ∷ bs) (v ∷ vs) z f (suc k) h = fit_long bs vs z f.1 k (omega arith)

table-count : (t : Tables) → length (lengths_of t) ≡ table_count
unfolding lengths_of
table-count t = refl

shapes-rise : (S : Settings) (P : Parts) → Rising 0 (parts (shapes S P))
unfolding shapes shape settings_shape
shapes-rise S P = (omega arith, behind-rise S P)

module _ (P : Parts) (text : List ℕ) (n : List ℕ) (few : length n ≡ table_count) (values : List ℤ) (h : lines_refusal P n text ≡ 0) (s : First (columns_in (lines_of text)) values) where
  abbrev lines : List Line
  lines = lines_of text

  abbrev settings : Settings
  settings = settings_in lines

  both : (in_order P text ≡ true) × (lengths_fit settings P n ≡ true)
  unfolding lines_refusal
  both = and_split (unless-zero 6 _ (first_zero _ _ (first_zero _ _ h).1).0)

  pub read-settings : settings_refusal settings ≡ 0
  unfolding lines_refusal look_refusal
  read-settings = (first_zero _ _ (first_zero _ _ (first_zero _ _ (first_zero _ _ h).0).1).1).0

  fit : Fit (shapes settings P) (columns (parts (shapes settings P)) lines)
  unfolding in_order wanted
  fit = read-fit 0 (shapes settings P) lines (shapes-rise settings P) (spots_same _ _ both.0)

  -- the values of each part
  abbrev all_columns : List (List ℤ)
  all_columns = columns table_parts lines

  behind : List ℤ
  behind = drop (length (columns_in lines)) values

  values_are : values ≡ joined all_columns ++ behind
  unfolding behind columns_in
  values_are = sym (take-append-drop (length (columns_in lines)) values) ∙ ap (λ vs. vs ++ behind) (s ∙ sym (columns-flat table_parts lines))

  column_long : (k : ℕ) → k < table_count → get_or (map length all_columns) k 0 ≡ shape_size (part_shape settings P (k + 1))
  unfolding part_shape shapes shape settings_shape
  column_long k h =
      fit_long (drop 1 (shapes settings P)) all_columns settings_shape fit.1 k (omega arith)
      ∙ ap (λ j. shape_size (get_or (shapes settings P) j settings_shape)) (sym (add-one k))

  lengths_are_lem : n ≡ map length all_columns
  unfolding lengths_are
  lengths_are_lem = ext_get_or 0 _ _ few (λ k l. eqb-true _ _ (every_at table_count _ both.1 k (omega arith)) ∙ sym (column_long k (omega arith)))

  pub tables_are : cut_tables n values ≡ tables_in lines
  unfolding tables_in unsigned_column cut_tables
  tables_are =
      (λ j. cut_tables (lengths_are_lem j) (values_are j))
      ∙ (λ j. tables_of (map (unsigned value_limit) (at 0 (omega arith) j)) (at 1 (omega arith) j) (map (unsigned value_limit) (at 2 (omega arith) j))
      (map (unsigned value_limit) (at 3 (omega arith) j)) (map (unsigned narrow_limit) (at 4 (omega arith) j)) (at 5 (omega arith) j) (map (unsigned value_limit) (at 6 (omega arith) j)))
    where
      at : (k : ℕ) → k < table_count → piece (map length all_columns) k (joined all_columns ++ behind) ≡ get_or all_columns k []
      at = piece-joined all_columns behind

  pub tables-room : total n ≤ length values
  unfolding total
  tables-room =
      omega (arith, ap (λ m. start m table_count) lengths_are_lem, start-joined all_columns, ap length values_are, length-append (joined all_columns) behind)

-- ---- what the reader promises

module _ (P : Parts) (text : List ℕ) (t : Tables) (r : Loaded) (values : List ℤ) (g : Gathered P (lengths_of t) text r values) where
  number_is : r.refusal ≡ lines_refusal P (lengths_of t) text
  unfolding loaded
  number_is = ap (λ x. x.refusal) g.answer

  kept : (m : ℕ) → read_refusal P text t ≡ m → (m ≡ 0 → ⊥) → t ≡ read_exit P text t
  unfolding read_exit
  kept m e h = sym (granted_refused _ _ _ (λ z. h (sym e ∙ z)))

  pub read-refused : (r.refusal ≡ 0 → ⊥) → Read P text t r t
  unfolding read_answer
  read-refused h =
      let same = read-stops P text t (λ z. h (number_is ∙ z)) in
      record { answer = g.answer ∙ ap (λ m. loaded m text) (sym same); tables_exit = kept r.refusal (same ∙ sym number_is) h }

  module _ (e : r.refusal ≡ 0) where
    unrefused : lines_refusal P (lengths_of t) text ≡ 0
    unrefused = sym number_is ∙ e

    settings_are : r.settings ≡ settings_in (lines_of text)
    unfolding loaded
    settings_are = ap (λ x. x.settings) g.answer ∙ granted-zero _ _ _ unrefused

    pub read_allowed : settings_refusal r.settings ≡ 0
    read_allowed = ap settings_refusal settings_are ∙ read-settings P text (lengths_of t) (table-count t) values unrefused (g.stored unrefused)

    pub read_room : total (lengths_of t) ≤ length values
    read_room = tables-room P text (lengths_of t) (table-count t) values unrefused (g.stored unrefused)

    stored : cut_tables (lengths_of t) values ≡ tables_in (lines_of text)
    stored = tables_are P text (lengths_of t) (table-count t) values unrefused (g.stored unrefused)

    module _ (m : ℕ) (m-is : m ≡ entries_refusal r.settings true (cut_tables (lengths_of t) values)) where
      decided : read_refusal P text t ≡ m
      decided = read-entries P text t unrefused ∙ sym (m-is ∙ (λ j. entries_refusal (settings_are j) true (stored j)))

      pub read_refused_entries : (r₂ : Loaded) → r₂ ≡ record { refusal = m; settings = no_settings } → (m ≡ 0 → ⊥) → Read P text t r₂ t
      unfolding read_answer
      read_refused_entries r₂ f h = record { answer = loaded-refused text r₂ m (read_refusal P text t) f decided h; tables_exit = kept m decided h }

      pub read_done : m ≡ 0 → (t₂ : Tables) → t₂ ≡ narrow_tables (cut_tables (lengths_of t) values) → Read P text t r t₂
      unfolding read_answer read_exit
      read_done z t₂ f = record {
        answer = g.answer ∙ ap (λ k. loaded k text) (unrefused ∙ sym (decided ∙ z));
        tables_exit = f ∙ ap narrow_tables stored ∙ tables-narrow text ∙ sym (granted-zero _ _ _ (decided ∙ z));
      }
