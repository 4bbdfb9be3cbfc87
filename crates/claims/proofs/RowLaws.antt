-- Laws of several rows that openings and trees rest on, each over the row index: what is put together of residues is residues, one item more, and how a row is read of what an opening sends.
--
--   cells-positive, flat-below                        a row has numbers; a table of residues
--   stacked-below, keys_below                         a key of residues, and its folds
--   interleaved-below, interleaved-suc                items of residues, and one item more
--   at_rows_ext, at_rows-tested                       by value: only the places below d of the rows matter, and residues are not refused
--   commitments-together, commitments-below           the commitment as a flat table
--   tables-below                                      the round elements of a whole opening
--   part_at                                           c_j of a polynomial by value
--   sent_row                                          a row of what an opening sends, with a final element f
use mathlib.Core.Path.{◌≡◌, refl, sym, ap, ◌∙◌, subst}
use mathlib.Core.Bool.{Bool, true, false, ◌&&◌}
use mathlib.Core.List.{List, [], ◌++◌, append-nil, append_assoc}
use Prim.Native.Nat.{ℕ, zero, suc, ◌+◌, ◌*◌, ◌/◌, ◌%◌, ◌<◌, ◌≤◌}
use native.Mathlib.Nat as Nat
use native.Mathlib.Omega.{arith}
use borrow.Author.Tests.{lt-ltb, ltb-true}
use lib.Dec.{ltb}
use lib.ListN.{get_or}
use lib.Pow as Pow
use lib.IntN.{ℤ}
use Rattle.protocol.specs.declared.Settings.{Settings}
use Rattle.protocol.specs.Basic.{tabulate, flat, choose}
use Rattle.protocol.specs.Element.{width}
use Rattle.protocol.specs.Layout.{rows_most, key_cells, item_cells, round_items, round_cells}
use Rattle.protocol.specs.Settings.{size, cells, residue_element, residue_rows}
use Rattle.protocol.specs.Inputs.{Below}
use Rattle.protocol.specs.Opening.{commitment, round_element, key_after}
use Rattle.protocol.specs.Transcript.{transcript_of}
use Rattle.protocol.specs.Rows.{key_row, stacked, interleaved, at_rows, together, row_of, commitments, round_tables, keys_after, transcripts_of}
use Rattle.protocol.specs.Session.{part}
use Rattle.protocol.specs.Calls.{polynomial}
use Rattle.protocol.proofs.Tests.{and_split, every-intro}
use Rattle.protocol.proofs.Reading.{cell-inside, by_cells, tabulate_at, flat-length, flat_at, flat_ext, flat-suc}
use Rattle.protocol.proofs.Ranges.{commitment-below, rounds_below, key_residues}
use Rattle.protocol.proofs.Rows.{item_row, item-index, key-cells, key_row-below, at_rows_at, together-at_rows, transcript_row}
use Rattle.claims.proofs.Claims.{sent}

-- ---- flat tables

pub flat-below : (q d n : ℕ) (F : ℕ → ℕ → ℕ) → 0 < d → ((i k : ℕ) → i < n → k < d → F i k < q) → Below q (n * d) (flat d n F)
flat-below q d n F p h = record {
  long = flat-length d n F;
  each = by_cells d n p (λ j. get_or (flat d n F) j 0 < q) (λ i k hi hk. subst (λ x. x < q) (sym (flat_at d n F 0 i k hi hk)) (h i k hi hk));
}

flat-add {ℓ} : {A : Type ℓ} (d n m : ℕ) (F : ℕ → ℕ → A) → flat d (n + m) F ≡ flat d n F ++ flat d m (λ i. F (n + i))
flat-add d n zero F =
    ap (λ l. flat d l F) (Nat.add-zero n)
    ∙ sym (append-nil (flat d n F))
    ∙ unfold flat tabulate in ap (λ l. flat d n F ++ tabulate l (λ p. F (n + p / d) (p % d))) (sym (Nat.zero-mul d))
flat-add d n (suc m) F =
    ap (λ l. flat d l F) (Nat.add-suc n m)
    ∙ flat-suc d (n + m) F
    ∙ ap (λ l. l ++ tabulate d (F (n + m))) (flat-add d n m F)
    ∙ append_assoc (flat d n F) (flat d m (λ i. F (n + i))) (tabulate d (F (n + m)))
    ∙ ap (λ l. flat d n F ++ l) (sym (flat-suc d m (λ i. F (n + i))))

-- what is chosen where a test passes
choose_ext {ℓ} : {A : Type ℓ} (b : Bool) (x y z : A) → (b ≡ true → x ≡ y) → choose b x z ≡ choose b y z
unfolding choose
choose_ext true x y z e = e refl
choose_ext false x y z e = refl

module _ (S : Settings) where
  open S use {degree as d, depth as L, modulus as q, rows as rows}

  pub cells-positive : 0 < d → 0 < cells S
  unfolding cells size
  cells-positive p = Nat.mul-pos (Pow.pow_pos L) p

  -- ---- keys

  pub stacked-below : (f : ℕ → List ℕ) → 0 < cells S → ((r : ℕ) → r < rows → Below q (cells S) (f r)) → Below q (key_cells S) (stacked S f)
  unfolding stacked
  stacked-below f p b = subst (λ n. Below q n (stacked S f)) (sym (key-cells S)) (flat-below q (cells S) rows _ p (λ r k hr hk. (b r hr).each k hk))

  pub keys_below : 0 < q → 0 < cells S → (E : List ℕ) (t : ℕ) (key : List ℕ) → Below q (key_cells S) key → Below q (key_cells S) (keys_after S E t key)
  unfolding keys_after
  keys_below pq p E t key b = stacked-below (λ r. key_after S E t (key_row S key r)) p (λ r h. key_residues S pq E t (key_row S key r) (key_row-below S q key b r h))

  -- ---- items

  pub interleaved-below : (n : ℕ) (f : ℕ → List ℕ) → 0 < rows → 0 < d → ((r : ℕ) → r < rows → Below q (n * d) (f r)) → Below q (rows * n * d) (interleaved S n f)
  unfolding interleaved
  interleaved-below n f some p b = flat-below q d (rows * n) _ p (λ i k hi hk.
      (b (i % rows) (Nat.mod-lt i some)).each (i / rows * d + k) (cell-inside d n (i / rows) k ((Nat.div-lt_iff_lt-mul some).1 (subst (λ m. i < m) (Nat.mul_comm rows n) hi)) hk))

  -- behind n items the next one, row by row
  pub interleaved-suc : (n : ℕ) (f : ℕ → List ℕ) → 0 < d → interleaved S (suc n) f ≡ interleaved S n f ++ flat d rows (λ r k. get_or (f r) (n * d + k) 0)
  unfolding interleaved
  interleaved-suc n f p =
      ap (λ m. flat d m (λ i k. get_or (f (i % rows)) (i / rows * d + k) 0)) (Nat.mul-suc rows n)
      ∙ flat-add d (rows * n) rows _
      ∙ ap (λ l. flat d (rows * n) (λ i k. get_or (f (i % rows)) (i / rows * d + k) 0) ++ l)
      (flat_ext d rows p (λ r k hr hk z. get_or (f (item_row rows n r hr z)) (item-index rows n r hr z * d + k) 0))

  -- ---- by value

  pub at_rows_ext : (f g : ℕ → List ℕ) → ((r k : ℕ) → r < rows → k < d → get_or (f r) k 0 ≡ get_or (g r) k 0) → at_rows S f ≡ at_rows S g
  unfolding at_rows
  at_rows_ext f g e = flat_ext width rows_most (omega arith) (λ r k _ _. choose_ext (ltb r rows && ltb k d) _ _ 0 (λ t.
      let (hr, hk) = and_split {a = ltb r rows} t in e r k (ltb-true r rows hr) (ltb-true k d hk)))

  module _ (most : rows ≤ rows_most) (wide : d ≤ width) where
    pub at_rows-tested : (f : ℕ → List ℕ) → ((r : ℕ) → r < rows → Below q d (f r)) → residue_rows S (at_rows S f) ≡ true
    unfolding residue_rows residue_element
    at_rows-tested f b = every-intro (λ r h. every-intro (λ k l. lt-ltb _ _ (subst (λ x. x < q) (sym (at_rows_at S f r k most wide h l)) ((b r h).each k l))))

    pub commitments-together : (key : List ℕ) (message : List ℤ) → 0 < d → together S (at_rows S (λ r. commitment S (key_row S key r) message)) ≡ commitments S key message
    unfolding commitments
    commitments-together key message p = together-at_rows S (λ r. commitment S (key_row S key r) message) p most wide

  -- ---- what an opening gives

  pub commitments-below : 0 < q → 0 < d → (key : List ℕ) (message : List ℤ) → Below q (item_cells S) (commitments S key message)
  unfolding commitments
  commitments-below pq p key message = flat-below q d rows _ p (λ r k hr hk. (commitment-below S pq (key_row S key r) message).each k hk)

  pub tables-below : 0 < q → 0 < rows → 0 < d → (E key : List ℕ) (message : List ℤ) → Below q (round_cells S) (round_tables S E key message)
  unfolding round_tables
  tables-below pq some p E key message = interleaved-below (round_items S) _ some p (λ r h. rounds_below S pq E (key_row S key r) message)

  pub part_at : (t : ℕ) (key : List ℕ) (message : List ℤ) (j : ℕ) → j < 3 → part (polynomial S t key message) j ≡ at_rows S (λ r. round_element S t (key_row S key r) message j)
  unfolding part polynomial
  part_at t key message j l = tabulate_at 3 _ [] j l

  pub sent_row : (key : List ℕ) (message : List ℤ) (E : List ℕ) (f : List ℤ) (r : ℕ) → 0 < d → r < rows
      → row_of S (record { commitment = commitments S key message; rounds = round_tables S E key message; challenges = E; last = f }) r
      ≡ sent S (key_row S key r) message E (commitment S (key_row S key r) message) f
  unfolding row_of transcripts_of transcript_of
  sent_row key message E f r p h = λ z. record {
    commitment = (transcript_row S key message E r p h z).commitment;
    rounds = (transcript_row S key message E r p h z).rounds;
    challenges = E;
    last = f;
  }
