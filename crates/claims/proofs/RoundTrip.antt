-- The round trip holds: reading gives back what was written, and writing what was read.
use mathlib.Core.Path.{◌≡◌, refl, sym, ◌∙◌, ap, ap₂, subst}
use mathlib.Core.Bool.{Bool, true, false, and-eq-true_iff, true≢false}
use mathlib.Core.List.{List, [], ◌∷◌, ◌++◌, map, flat_map, zip_with}
use mathlib.Core.Option
use mathlib.Core.Option.{Option, none, some}
use Prim.Native.Nat.{ℕ, ◌*◌, ◌<◌, ◌≤◌}
use native.Mathlib.Omega.{arith}
use lib.ListN.{length, get_or, take, drop, get_or-append}
use lib.IntN.{ℤ, pos}
use borrow.Author.Tests.{leb-true}
use Rattle.protocol.specs.Element.{width}
use Rattle.protocol.specs.declared.Settings.{Settings}
use Rattle.protocol.specs.declared.Parts.{Parts}
use Rattle.protocol.specs.Basic.{tabulate, among, choose, granted}
use Rattle.protocol.specs.Settings.{settings_refusal, all_below}
use Rattle.protocol.specs.Settings.{exponent, exponents}
use Rattle.text_format.specs.Text.{Line, Tables, text_limit, value_limit, narrow_limit, limit_of, names, lines_text, shape, settings_shape, shapes, shape_size}
use Rattle.text_format.specs.Text.{spots, wanted, settings_values, contents, block, blocks, block_lines, text_of, fits}
use Rattle.text_format.specs.Text.{parsed, lines_of, same_spots, spots_of, values_of, well_formed, unsigned, column, unsigned_column}
use Rattle.text_format.specs.Text.{setting_in, settings_in, tables_in, look_refusal, loaded, entries_refusal, text_refusal, read_refusal, read_answer}
use Rattle.text_format.specs.Text.{read_exit}
use Rattle.text_format.specs.Text.{written, overwritten, write_answer, write_exit}
use Rattle.text_format.specs.RoundTrip.{Forth, RoundTrip, OneText}
use Rattle.protocol.proofs.Tests.{first_zero, unless-zero}
use Rattle.protocol.proofs.Reading.{tabulate_own}
use Rattle.text_format.proofs.LineLaws.{AllLimited, parsed-text}
use Rattle.text_format.proofs.TableLaws.{Fit, parts, columns, read-lines, read-fit}
use Rattle.text_format.proofs.TableLaws.{Split, split}
use Rattle.text_format.proofs.TextLimits.{Allowed, allowed, Passed, passed, unrefused, below-limited, exponent-le, column-limited}
use Rattle.text_format.proofs.ColumnLaws.{same_spots_eq, values_of-append}
use Rattle.claims.proofs.Unsigned.{unsigned-pos, unsigned-forth}
use Rattle.claims.proofs.WrittenRead.{part_numbers, shapes-rise, fit_all, lines-read, settings_back, tables_back, read_back, Writable, writable_refusal, back}

-- what the reader asks of a text
record Readable (P : Parts) (text : List ℕ) : Type 0 where
  short : length text ≤ text_limit
  formed : well_formed text ≡ true
  settings : settings_refusal (settings_in (lines_of text)) ≡ 0
  order : spots_of (lines_of text) ≡ wanted (settings_in (lines_of text)) P
  entries : entries_refusal (settings_in (lines_of text)) true (tables_in (lines_of text)) ≡ 0

readable : (P : Parts) (lent : Bool) (text : List ℕ) → text_refusal P lent text ≡ 0 → Readable P text
unfolding text_refusal look_refusal
readable P lent text h =
    let (look, r₁) = first_zero _ _ h in
    let (h₇, r₂) = first_zero _ _ r₁ in
    let (h₈, r₃) = first_zero _ _ r₂ in
    let (h₁, r₄) = first_zero _ _ look in
    let (h₂, r₅) = first_zero _ _ r₄ in
    let (h₃, r₆) = first_zero _ _ r₅ in
    record {
      short = leb-true (length text) text_limit (unless-zero 0 _ h₁);
      formed = unless-zero 1 _ h₂;
      settings = h₃;
      order = same_spots_eq _ _ ((and-eq-true_iff (same_spots (spots_of (lines_of text)) (wanted (settings_in (lines_of text)) P)) _).0 (unless-zero 6 _ h₇)).0;
      entries = h₈;
    }

-- a text with settings lines has lines
parsed-lines : (text : List ℕ) → well_formed text ≡ true → parsed text ≡ some (lines_of text)
unfolding well_formed lines_of spots_of settings_shape shape choose shape_size spots tabulate same_spots
parsed-lines text h = go (parsed text) refl h
  where
    go : (o : Option (List Line)) → parsed text ≡ o
        → same_spots (take (shape_size settings_shape) (spots_of (Option.get_or o []))) (spots settings_shape) ≡ true → o ≡ some (Option.get_or o [])
    go none e k = absurd (true≢false (sym k))
    go (some ls) e k = refl

module _ (P : Parts) (text : List ℕ) (r : Readable P text) where
  abbrev ls : List Line
  ls = lines_of text

  abbrev S : Settings
  S = settings_in (lines_of text)

  abbrev t : Tables
  t = tables_in (lines_of text)

  bounds : Allowed S
  bounds = allowed S r.settings

  limited : AllLimited ls
  limited = (parsed-text text ls (parsed-lines text r.formed)).0

  fine : Passed S t
  unfolding tables_in limit_of among choose
  fine = passed S true t r.entries (λ e. column-limited 6 ls limited)

  -- part 0 and the parts behind it
  zeroth : Split settings_shape (drop 1 (shapes S P)) ls
  unfolding wanted shapes settings_shape shape flat_map
  zeroth = split settings_shape (drop 1 (shapes S P)) ls (shapes-rise S P).1 r.order

  fitting : Fit (shapes S P) (columns part_numbers ls)
  unfolding wanted shapes settings_shape shape
  fitting = read-fit 0 (shapes S P) ls (shapes-rise S P) r.order

  five-settings : length (column 0 ls) ≡ 5
  unfolding shapes settings_shape shape choose shape_size
  five-settings = fitting.0

  setting : (i : ℕ) → i < 5 → get_or (values_of ls) i (pos 0) ≡ get_or (column 0 ls) i (pos 0)
  unfolding settings_shape shape
  setting i l =
      let z = zeroth in
      let inside : i < length (values_of z.front) = omega (arith, ap length z.mine, five-settings) in
      ap (λ (x : List Line). get_or (values_of x) i (pos 0)) z.joined
      ∙ ap (λ (x : List ℤ). get_or x i (pos 0)) (values_of-append z.front z.back)
      ∙ get_or-append (values_of z.front) (values_of z.back) (pos 0) i inside
      ∙ ap (λ (x : List ℤ). get_or x i (pos 0)) (sym z.mine)

  settings-forth : settings_values S ≡ column 0 ls
  unfolding settings_values settings_in setting_in tabulate
  settings-forth =
      let wide : width ≤ narrow_limit = unfold narrow_limit in (omega arith) in
      let d = unsigned-pos narrow_limit (get_or (values_of ls) 0 (pos 0)) (omega (arith, bounds.degree)) ∙ setting 0 (omega arith) in
      let l = unsigned-pos narrow_limit (get_or (values_of ls) 1 (pos 0)) (omega (arith, bounds.depth)) ∙ setting 1 (omega arith) in
      let q = unsigned-pos value_limit (get_or (values_of ls) 2 (pos 0)) bounds.modulus ∙ setting 2 (omega arith) in
      let b = unsigned-pos narrow_limit (get_or (values_of ls) 3 (pos 0)) (omega (arith, bounds.bound)) ∙ setting 3 (omega arith) in
      let r = unsigned-pos narrow_limit (get_or (values_of ls) 4 (pos 0)) (omega (arith, bounds.rows)) ∙ setting 4 (omega arith) in
      (λ i. d i ∷ l i ∷ q i ∷ b i ∷ r i ∷ []) ∙ tabulate_own 5 (column 0 ls) (pos 0) five-settings

  plain-residues : (v : List ℤ) → all_below S (map (unsigned value_limit) v) ≡ true → map pos (map (unsigned value_limit) v) ≡ v
  unfolding all_below
  plain-residues v h = unsigned-forth value_limit v (below-limited value_limit S.modulus (map (unsigned value_limit) v) bounds.modulus h)

  plain-exponents : (v : List ℤ) → exponents S (map (unsigned narrow_limit) v) ≡ true → map pos (map (unsigned narrow_limit) v) ≡ v
  unfolding exponents exponent
  plain-exponents v h = unsigned-forth narrow_limit v (below-limited narrow_limit (2 * S.degree) (map (unsigned narrow_limit) v) (exponent-le S bounds) h)

  contents-forth : contents S t ≡ columns part_numbers ls
  unfolding contents tables_in unsigned_column
  contents-forth =
      let k = plain-residues (column 1 ls) fine.key in
      let c = plain-residues (column 3 ls) fine.commitment in
      let o = plain-residues (column 4 ls) fine.rounds in
      let e = plain-exponents (column 5 ls) fine.challenges in
      let v = plain-residues (column 7 ls) fine.claims in
      λ i. settings-forth i ∷ k i ∷ column 2 ls ∷ c i ∷ o i ∷ e i ∷ column 6 ls ∷ v i ∷ []

  lines-forth : flat_map block_lines (blocks S P t) ≡ ls
  unfolding blocks wanted shapes settings_shape shape
  lines-forth =
      ap (λ (vs : List (List ℤ)). flat_map block_lines (zip_with block (shapes S P) vs)) contents-forth
      ∙ read-lines 0 (shapes S P) ls (shapes-rise S P) r.order

  text-forth : text_of S P t ≡ text
  unfolding text_of
  text-forth = ap (λ (x : List Line). names ++ lines_text x) lines-forth ∙ sym (parsed-text text ls (parsed-lines text r.formed)).1

  fits-forth : fits S P t ≡ true
  unfolding fits blocks
  fits-forth = fit_all (shapes S P) (contents S t) (subst (Fit (shapes S P)) (sym contents-forth) fitting)

  written-forth : (out : List ℕ) → length text ≤ length out → Writable S P t out
  written-forth out n =
      record {
        settings = r.settings;
        tables = fits-forth;
        entries = unrefused S _ t fine fine.last;
        short = rw text-forth r.short;
        room = rw text-forth n;
      }

forth : (P : Parts) (text : List ℕ) (lent : Tables) (out : List ℕ) → read_refusal P text lent ≡ 0 → length text ≤ length out → Forth P text lent out
unfolding read_refusal read_answer read_exit loaded granted write_answer write_exit written overwritten
forth P text lent out h n =
    let r = readable P _ text h in
    let w = writable_refusal _ P _ out (written-forth P text r out n) in
    record { answer = rw (h, w, text-forth P text r); output = rw (h, w, text-forth P text r) }

pub round_trip : RoundTrip
unfolding write_answer written read_answer loaded
round_trip = record { back = back; forth = forth }

-- a text that is not refused, and the tables that stand in it
pub readable_tables : (P : Parts) (text : List ℕ) → text_refusal P true text ≡ 0
    → let S = settings_in (lines_of text) in let t = tables_in (lines_of text) in (settings_refusal S ≡ 0) × Fit (shapes S P) (contents S t) × Passed S t
readable_tables P text h =
    let r = readable P true text h in
    (r.settings, subst (Fit (shapes _ P)) (sym (contents-forth P text r)) (fitting P text r), fine P text r)

-- and the other way round
pub tables_readable : (S : Settings) (P : Parts) (t : Tables) → settings_refusal S ≡ 0 → Fit (shapes S P) (contents S t) → Passed S t → length (text_of S P t) ≤ text_limit
    → (text_refusal P true (text_of S P t) ≡ 0) × (settings_in (lines_of (text_of S P t)) ≡ S) × (tables_in (lines_of (text_of S P t)) ≡ t)
tables_readable S P t s f p n =
    let a = allowed S s in
    (read_back S P t f a p s n true refl, ap settings_in (lines-read S P t a p) ∙ settings_back S P t a, ap tables_in (lines-read S P t a p) ∙ tables_back S P t f a p)

-- what was read of a text has one text, and that is it
text_of-read : (P : Parts) (text : List ℕ) (lent : Tables) → read_refusal P text lent ≡ 0 → text_of (read_answer P text lent).settings P (read_exit P text lent) ≡ text
unfolding read_refusal read_answer read_exit loaded granted
text_of-read P text lent h = rw h (text-forth P text (readable P _ text h))

pub one_text : OneText
unfolding read_answer loaded
one_text P text text' lent lent' h h' settings tables =
    sym (text_of-read P text lent h) ∙ ap₂ (λ S t. text_of S P t) settings tables ∙ text_of-read P text' lent' h'
