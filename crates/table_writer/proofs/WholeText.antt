-- The text of values, part by part.
--
--   parted_next    one part more
--   parted_longer  more parts are no shorter
--   gathered-length how many values there are
--   gathered_are   the values as they are gathered are those of the tables
--   text-values    the text of the values of tables is the text of the tables
--   text-over      a text whose values find no room is too long
use mathlib.Core.Path.{◌≡◌, refl, sym, ap, ◌∙◌}
use mathlib.Core.Bool.{true}
use mathlib.Core.List.{List, [], ◌∷◌, ◌++◌, append_assoc, append-nil, map, flat_map, zip_with}
use Prim.Native.Nat.{ℕ, zero, suc, ◌+◌, ◌*◌, ◌<◌, ◌≤◌}
use native.Mathlib.Omega.{arith}
use native.Mathlib.Numerals.{add-one}
use borrow.Author.Tests.{eqb-true, leb-true}
use lib.Dec.{leb}
use lib.ListN.{length, get_or, drop, length-append, length-map}
use lib.IntN.{ℤ, pos}
use Rattle.protocol.specs.declared.Settings.{Settings}
use Rattle.protocol.specs.declared.Parts.{Parts}
use Rattle.protocol.specs.Basic.{all}
use Rattle.protocol.specs.Settings.{all_below}
use Rattle.text_format.specs.Text.{Line, Shape, Tables, text_limit, value_limit, names, settings_shape, shapes, shape_size, settings_values, contents, line_text, lines_text, block, blocks, block_lines, text_of}
use Rattle.protocol.proofs.Tests.{every_at, and_split}
use Rattle.text_format.proofs.TextLimits.{allowed, below-limited}
use Rattle.text_format.proofs.LineLaws.{lines-append}
use Rattle.text_parts.specs.Parts.{table_count, values_room, part_shape, part_of, lengths_of, lengths_are}
use Rattle.text_parts.specs.Flat.{start, total, piece, joined, table_values}
use Rattle.text_parts.proofs.Counted.{part_of_holds, lengths-counted}
use Rattle.text_parts.proofs.Exactly.{lengths-fit}
use Rattle.text_parts.proofs.Flat.{piece-joined, start-joined, values-lengths}
use Rattle.table_writer.specs.Put.{part_text}
use Rattle.table_writer.specs.Tables.{capped, gathered, settings_text, parted, values_text, Writable}
use Rattle.table_writer.proofs.LineTexts.{line_least}
use Rattle.table_writer.proofs.PartTexts.{lines-count}

-- ---- every line has at least eight bytes

pub lines_least : (ls : List Line) → 8 * length ls ≤ length (lines_text ls)
unfolding lines_text flat_map
lines_least [] = omega arith
lines_least (l ∷ ls) = omega (arith, line_least l, lines_least ls, length-append (line_text l) (lines_text ls))

part_least : (b : Shape) (v : List ℤ) → 8 * shape_size b ≤ length (part_text b v)
unfolding part_text block_lines block
part_least b v = omega (arith, lines_least (block_lines (block b v)), lines-count b v)

-- ---- parts one behind the other

module _ (b : ℕ → Shape) (v : ℕ → List ℤ) where
  pub parted_next : (k : ℕ) (text : List ℕ) → parted b v (k + 1) text ≡ parted b v k text ++ part_text (b k) (v k)
  unfolding parted
  parted_next k text = ap (λ n. parted b v n text) (add-one k)

  -- more parts are no shorter
  pub parted_longer : (k m : ℕ) (text : List ℕ) → length (parted b v k text) ≤ length (parted b v (k + m) text)
  unfolding parted
  parted_longer k zero text = omega (arith, ap (λ n. length (parted b v n text)) {x = k + 0} {y = k} (omega arith))
  parted_longer k (suc m) text =
      omega (
        arith,
        parted_longer k m text,
        ap (λ n. length (parted b v n text)) {x = k + suc m} {y = suc (k + m)} (omega arith),
        length-append (parted b v (k + m) text) (part_text (b (k + m)) (v (k + m))),
      )

  parted_first : (k : ℕ) (text : List ℕ) → parted b v (suc k) text ≡ parted (λ i. b (suc i)) (λ i. v (suc i)) k (text ++ part_text (b 0) (v 0))
  unfolding parted
  parted_first zero text = refl
  parted_first (suc k) text = ap (λ l. l ++ part_text (b (suc k)) (v (suc k))) (parted_first k text)

  parted_ext : (c : ℕ → Shape) (w : ℕ → List ℤ) (k : ℕ) (text : List ℕ) → ((i : ℕ) → i < k → b i ≡ c i) → ((i : ℕ) → i < k → v i ≡ w i) → parted b v k text ≡ parted c w k text
  unfolding parted
  parted_ext c w zero text e f = refl
  parted_ext c w (suc k) text e f =
      λ j. parted_ext c w k text (λ i l. e i (omega arith)) (λ i l. f i (omega arith)) j ++ part_text (e k (omega arith) j) (f k (omega arith) j)

  -- every line has at least eight bytes
  parted_least : (n : List ℕ) (k : ℕ) (text : List ℕ) → ((i : ℕ) → i < k → get_or n i 0 ≡ shape_size (b i)) → 8 * start n k ≤ length (parted b v k text)
  unfolding parted start
  parted_least n zero text e = omega arith
  parted_least n (suc k) text e =
      omega (
        arith,
        parted_least n k text (λ i l. e i (omega arith)),
        e k (omega arith),
        part_least (b k) (v k),
        length-append (parted b v k text) (part_text (b k) (v k)),
      )

parted-list : (bs : List Shape) (vs : List (List ℤ)) (z : Shape) (text : List ℕ) → length bs ≡ length vs
    → parted (λ i. get_or bs i z) (λ i. get_or vs i []) (length bs) text ≡ text ++ lines_text (flat_map block_lines (zip_with block bs vs))
unfolding parted part_text flat_map zip_with lines_text
parted-list [] vs z text e = sym (append-nil text)
parted-list (b ∷ bs) [] z text e = absurd (omega arith)
parted-list (b ∷ bs) (v ∷ vs) z text e =
    parted_first (λ i. get_or (b ∷ bs) i z) (λ i. get_or (v ∷ vs) i []) (length bs) text
    ∙ parted-list bs vs z (text ++ lines_text (block_lines (block b v))) (omega arith)
    ∙ append_assoc text (lines_text (block_lines (block b v))) (lines_text (flat_map block_lines (zip_with block bs vs)))
    ∙ ap (λ l. text ++ l) (sym (lines-append (block_lines (block b v)) (flat_map block_lines (zip_with block bs vs))))

-- ---- numbers within the limit

capped_is : (x : ℕ) → x ≤ value_limit → capped x ≡ pos x
unfolding capped
capped_is x h = ap pos (omega arith)

capped-within : (v : List ℕ) → all (λ x. leb x value_limit) v ≡ true → map capped v ≡ map pos v
unfolding all
capped-within [] h = refl
capped-within (x ∷ v) h =
    let (here, more) = and_split {a = leb x value_limit} h in
    λ j. capped_is x (leb-true x value_limit here) j ∷ capped-within v more j

-- ---- as many values as the tables have numbers

gathered-lengths : (t : Tables) → map length (gathered t) ≡ lengths_of t
unfolding gathered lengths_of
gathered-lengths t = simp length-map

pub gathered-length : (t : Tables) → length (joined (gathered t)) ≡ total (lengths_of t)
unfolding total gathered
gathered-length t = sym (start-joined (gathered t)) ∙ ap (λ n. start n table_count) (gathered-lengths t)

-- ---- the text of the values of tables

abbrev all_shapes : Settings → Parts → List Shape
all_shapes S P = drop 1 (shapes S P)

module _ (S : Settings) (P : Parts) (t : Tables) (w : Writable S P t) where
  shape_at : (i : ℕ) → part_of S P (i + 1) ≡ get_or (all_shapes S P) i settings_shape
  unfolding part_shape shapes
  shape_at i = part_of_holds S P w.settings (i + 1) ∙ ap (λ j. get_or (shapes S P) j settings_shape) (add-one i)

  table-count : length (table_values t) ≡ table_count
  unfolding table_values contents
  table-count = refl

  shapes-count : length (all_shapes S P) ≡ table_count
  unfolding shapes
  shapes-count = refl

  pub lengths_are_lem : lengths_are (part_of S P) (lengths_of t) ≡ true
  lengths_are_lem = lengths-counted S P w.settings (lengths_of t) ∙ lengths-fit S P t ∙ w.fitting

  modulus-limited : S.modulus ≤ value_limit
  modulus-limited = (allowed S w.settings).modulus

  -- no residue is past the limit
  capped-list : (v : List ℕ) → all_below S v ≡ true → map capped v ≡ map pos v
  unfolding all_below
  capped-list v h = capped-within v (below-limited value_limit S.modulus v modulus-limited h)

  pub gathered_are : gathered t ≡ table_values t
  unfolding gathered table_values contents
  gathered_are =
      let (k, cr) = and_split {a = all_below S t.key} w.residues in
      let (c, rv) = and_split {a = all_below S t.commitment} cr in
      let (r, v) = and_split {a = all_below S t.rounds} rv in
      λ j. capped-list t.key k j ∷ t.message ∷ capped-list t.commitment c j ∷ capped-list t.rounds r j ∷ map pos t.challenges ∷ t.last ∷ capped-list t.claims v j ∷ []

  settings_first : settings_text S ++ lines_text (flat_map block_lines (zip_with block (all_shapes S P) (table_values t))) ≡ text_of S P t
  unfolding settings_text part_text text_of blocks shapes contents settings_values table_values zip_with flat_map
  settings_first =
      let more = lines_text (flat_map block_lines (zip_with block (all_shapes S P) (table_values t))) in
      append_assoc names _ _
      ∙ ap (λ q. names ++ (part_text settings_shape (pos S.degree ∷ pos S.depth ∷ q ∷ pos S.bound ∷ pos S.rows ∷ []) ++ more)) (capped_is S.modulus modulus-limited)
      ∙ ap (λ l. names ++ l) (sym (lines-append _ _))

  pub text-values : (values rest : List ℤ) → values ≡ joined (table_values t) ++ rest → values_text S P (lengths_of t) values ≡ text_of S P t
  unfolding values_text
  text-values values rest e =
      parted_ext _ _ (λ i. get_or (all_shapes S P) i settings_shape) (λ i. get_or (table_values t) i []) table_count (settings_text S) (λ i l. shape_at i) piece_at
      ∙ ap (λ k. parted (λ i. get_or (all_shapes S P) i settings_shape) (λ i. get_or (table_values t) i []) k (settings_text S)) (sym shapes-count)
      ∙ parted-list (all_shapes S P) (table_values t) settings_shape (settings_text S) (shapes-count ∙ sym table-count) ∙ settings_first
    where
      piece_at : (i : ℕ) → i < table_count → piece (lengths_of t) i values ≡ get_or (table_values t) i []
      piece_at i l = (λ j. piece (sym (values-lengths t) j) i (e j)) ∙ piece-joined (table_values t) rest i (omega (arith, table-count))

  pub text-over : values_room < total (lengths_of t) → text_limit < length (text_of S P t)
  unfolding text_limit total values_text lengths_are
  text-over h =
      let least = parted_least (λ i. part_of S P (i + 1)) (λ i. piece (lengths_of t) i (joined (table_values t))) (lengths_of t) table_count (settings_text S)
      (λ i l. eqb-true _ _ (every_at table_count _ lengths_are_lem i l)) in
      omega (arith, least, ap length (text-values (joined (table_values t)) [] (sym (append-nil _))))
