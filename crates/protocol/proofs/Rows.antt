-- How rows are read: each of a table that was put together row by row is the one that was put there, and what is by value for each row has it in its place.
--
--   key-cells, round-cells, tree-cells     sizes of all rows, as so many times one row's
--   key_row-length, key_row_at, key_row-below, key_row-own
--   stacked-length, stacked_row, stacked-own, stacked_ext
--   row_items-length, row_items_at, row_items-element, row_items-below
--   interleaved-length, interleaved_at, interleaved_row
--   value_row_at, at_rows-length, at_rows_at, together_at, together-at_rows
--   keys-zero, keys-suc                    the folds of a key one after the other
--   transcript_row                         a row of a message's transcript is the transcript of that row
use mathlib.Core.Path.{◌≡◌, sym, ap, ◌∙◌, subst}
use mathlib.Core.Bool.{◌&&◌}
use mathlib.Core.List.{List}
use Prim.Native.Nat.{ℕ, suc, ◌+◌, ◌*◌, ◌/◌, ◌%◌, ◌<◌, ◌≤◌}
use native.Mathlib.Nat as Nat
use native.Mathlib.Omega.{arith}
use borrow.Author.Tests.{lt-ltb}
use lib.ListN.{length, get_or}
use lib.Dec.{ltb}
use lib.Seq.{get_or-drop}
use lib.IntN.{ℤ, pos}
use Rattle.protocol.specs.declared.Settings.{Settings}
use Rattle.protocol.specs.Basic.{tabulate, flat, choose}
use Rattle.protocol.specs.Element.{width, value_row, residue_at, reduced}
use Rattle.protocol.specs.Layout.{rows_most, rows_width, key_cells, round_items}
use Rattle.protocol.specs.Settings.{cells}
use Rattle.protocol.specs.Inputs.{Below}
use Rattle.protocol.specs.Opening.{commitment, round_table, fold_key, key_after}
use Rattle.protocol.specs.Transcript.{transcript_of}
use Rattle.protocol.specs.Rows.{key_row, stacked, row_items, interleaved, at_rows, together, row_of, commitments, round_tables, fold_keys, keys_after, transcripts_of}
use Rattle.protocol.proofs.Reading.{cell-inside, cell-element, cell-place, tabulate_length, tabulate_at, tabulate_own, tabulate_ext, flat-length, flat_at, flat-own, flat_ext}
use Rattle.protocol.proofs.OpeningLaws.{key-length}

-- an item of a row stands inside its table
pub item-inside : (rows n i r : ℕ) → i < n → r < rows → rows * i + r < rows * n
item-inside rows n i r hi hr = omega (arith, Nat.mul-le-mul_left rows hi, Nat.mul-suc rows i)

pub item_row : (rows i r : ℕ) → r < rows → (rows * i + r) % rows ≡ r
item_row rows i r h = ap (λ x. (x + r) % rows) (Nat.mul_comm rows i) ∙ cell-place rows i r h

pub item-index : (rows i r : ℕ) → r < rows → (rows * i + r) / rows ≡ i
item-index rows i r h = ap (λ x. (x + r) / rows) (Nat.mul_comm rows i) ∙ cell-element rows i r h

module _ (S : Settings) where
  open S use {degree as d, depth as L, rows as rows}

  -- ---- sizes

  pub key-cells : key_cells S ≡ rows * cells S
  unfolding cells
  key-cells = Nat.mul_assoc rows _ d

  -- ---- keys

  pub key_row-length : (key : List ℕ) (r : ℕ) → length (key_row S key r) ≡ cells S
  unfolding key_row
  key_row-length key r = tabulate_length (cells S) _

  pub key_row_at : (key : List ℕ) (r p : ℕ) → p < cells S → get_or (key_row S key r) p 0 ≡ get_or key (r * cells S + p) 0
  unfolding key_row
  key_row_at key r p h = tabulate_at (cells S) _ 0 p h

  pub key_row-below : (q : ℕ) (key : List ℕ) → Below q (key_cells S) key → (r : ℕ) → r < rows → Below q (cells S) (key_row S key r)
  key_row-below q key b r h = record {
    long = key_row-length key r;
    each = λ p l. subst (λ x. x < q) (sym (key_row_at key r p l)) (b.each (r * cells S + p) (subst (λ n. r * cells S + p < n) (sym key-cells) (cell-inside (cells S) rows r p h l)));
  }

  pub stacked-length : (f : ℕ → List ℕ) → length (stacked S f) ≡ key_cells S
  unfolding stacked
  stacked-length f = flat-length (cells S) rows _ ∙ sym key-cells

  pub stacked_row : (f : ℕ → List ℕ) (r : ℕ) → r < rows → length (f r) ≡ cells S → key_row S (stacked S f) r ≡ f r
  unfolding stacked key_row
  stacked_row f r h l = tabulate_ext (cells S) (λ p m. flat_at (cells S) rows (λ r p. get_or (f r) p 0) 0 r p h m) ∙ tabulate_own (cells S) (f r) 0 l

  pub stacked_ext : (f g : ℕ → List ℕ) → 0 < cells S → ((r : ℕ) → r < rows → f r ≡ g r) → stacked S f ≡ stacked S g
  unfolding stacked
  stacked_ext f g p e = flat_ext (cells S) rows p (λ r k h l. ap (λ t. get_or t k 0) (e r h))

  -- a key is its rows
  pub stacked-own : (key : List ℕ) → 0 < cells S → length key ≡ key_cells S → stacked S (key_row S key) ≡ key
  unfolding stacked
  stacked-own key p l =
      flat_ext (cells S) rows p (λ r k h m. key_row_at key r k m)
      ∙ flat-own (cells S) rows key 0 p (l ∙ key-cells)

  -- ---- items

  pub row_items-length : (n : ℕ) (t : List ℕ) (r : ℕ) → length (row_items S n t r) ≡ n * d
  unfolding row_items
  row_items-length n t r = flat-length d n _

  pub row_items_at : (n : ℕ) (t : List ℕ) (r i k : ℕ) → i < n → k < d → get_or (row_items S n t r) (i * d + k) 0 ≡ get_or t ((rows * i + r) * d + k) 0
  unfolding row_items
  row_items_at n t r i k hi hk = flat_at d n (λ i k. get_or t ((rows * i + r) * d + k) 0) 0 i k hi hk

  pub row_items-element : (n : ℕ) (t : List ℕ) (r i k : ℕ) → i < n → k < d → residue_at d (row_items S n t r) i k ≡ residue_at d t (rows * i + r) k
  unfolding residue_at
  row_items-element n t r i k hi hk = ap (λ x. pos x) (row_items_at n t r i k hi hk)

  pub interleaved-length : (n : ℕ) (f : ℕ → List ℕ) → length (interleaved S n f) ≡ rows * n * d
  unfolding interleaved
  interleaved-length n f = flat-length d (rows * n) _

  pub interleaved_at : (n : ℕ) (f : ℕ → List ℕ) (r i k : ℕ) → r < rows → i < n → k < d → get_or (interleaved S n f) ((rows * i + r) * d + k) 0 ≡ get_or (f r) (i * d + k) 0
  unfolding interleaved
  interleaved_at n f r i k hr hi hk =
      flat_at d (rows * n) (λ i k. get_or (f (i % rows)) (i / rows * d + k) 0) 0 (rows * i + r) k (item-inside rows n i r hi hr) hk
      ∙ λ z. get_or (f (item_row rows i r hr z)) (item-index rows i r hr z * d + k) 0

  pub interleaved_row : (n : ℕ) (f : ℕ → List ℕ) (r : ℕ) → 0 < d → r < rows → length (f r) ≡ n * d → row_items S n (interleaved S n f) r ≡ f r
  unfolding row_items
  interleaved_row n f r p h l = flat_ext d n p (λ i k hi hk. interleaved_at n f r i k h hi hk) ∙ flat-own d n (f r) 0 p l

  -- ---- by value

  pub value_row_at : (C : List ℕ) (r k : ℕ) → get_or (value_row C r) k 0 ≡ get_or C (r * width + k) 0
  unfolding value_row
  value_row_at C r k = get_or-drop (r * width) C k 0

  pub at_rows-length : (f : ℕ → List ℕ) → length (at_rows S f) ≡ rows_width
  unfolding at_rows
  at_rows-length f = flat-length width rows_most _

  pub at_rows_at : (f : ℕ → List ℕ) (r k : ℕ) → rows ≤ rows_most → d ≤ width → r < rows → k < d → get_or (value_row (at_rows S f) r) k 0 ≡ get_or (f r) k 0
  unfolding at_rows
  at_rows_at f r k m w h l =
      value_row_at (at_rows S f) r k
      ∙ flat_at width rows_most (λ r k. choose (ltb r rows && ltb k d) (get_or (f r) k 0) 0) 0 r k (omega arith) (omega arith)
      ∙ unfold choose in (λ z. choose (lt-ltb r rows h z && lt-ltb k d l z) (get_or (f r) k 0) 0)

  pub together_at : (C : List ℕ) (r k : ℕ) → r < rows → k < d → get_or (together S C) (r * d + k) 0 ≡ get_or (value_row C r) k 0
  unfolding together
  together_at C r k h m = flat_at d rows (λ r k. get_or (value_row C r) k 0) 0 r k h m

  -- the elements of the rows, from by value to a flat table
  pub together-at_rows : (f : ℕ → List ℕ) → 0 < d → rows ≤ rows_most → d ≤ width → together S (at_rows S f) ≡ flat d rows (λ r k. get_or (f r) k 0)
  unfolding together
  together-at_rows f p m w = flat_ext d rows p (λ r k h l. at_rows_at f r k m w h l)

  -- ---- folds

  pub keys-zero : (E key : List ℕ) → 0 < cells S → length key ≡ key_cells S → keys_after S E 0 key ≡ key
  unfolding keys_after key_after
  keys-zero E key p l = stacked-own key p l

  pub keys_row : (E key : List ℕ) (t r : ℕ) → r < rows → key_row S (keys_after S E t key) r ≡ key_after S E t (key_row S key r)
  unfolding keys_after
  keys_row E key t r h = stacked_row (λ r. key_after S E t (key_row S key r)) r h (key-length S E t (key_row S key r) (key_row-length key r))

  pub keys-suc : (E key : List ℕ) (t : ℕ) → 0 < cells S → keys_after S E (suc t) key ≡ fold_keys S t (get_or E t 0) (keys_after S E t key)
  unfolding fold_keys key_after
  keys-suc E key t p = unfold keys_after in stacked_ext _ _ p (λ r h. ap (λ k. fold_key S t (get_or E t 0) k) (sym (keys_row E key t r h)))

  -- ---- transcripts

  pub transcript_row : (key : List ℕ) (message : List ℤ) (E : List ℕ) (r : ℕ) → 0 < d → r < rows → row_of S (transcripts_of S key message E) r ≡ transcript_of S (key_row S key r) message E
  unfolding row_of transcripts_of transcript_of commitments round_tables
  transcript_row key message E r p h = λ z. record {
    commitment = own z;
    rounds = interleaved_row (round_items S) (λ r. round_table S E (key_row S key r) message) r p h (rounds_long r) z;
    challenges = E;
    last = (transcripts_of S key message E).last;
  }
    where
      rounds_long : (r : ℕ) → length (round_table S E (key_row S key r) message) ≡ round_items S * d
      rounds_long r = unfold round_table in flat-length d (round_items S) _

      own : tabulate d (λ k. get_or (flat d rows (λ r k. get_or (commitment S (key_row S key r) message) k 0)) (r * d + k) 0) ≡ commitment S (key_row S key r) message
      own =
          tabulate_ext d (λ k m. flat_at d rows (λ r k. get_or (commitment S (key_row S key r) message) k 0) 0 r k h m)
          ∙ tabulate_own d (commitment S (key_row S key r) message) 0 (unfold commitment reduced in tabulate_length d _)
