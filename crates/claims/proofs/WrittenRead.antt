-- A text that was written is read back: its lines, its settings, its tables, and that nothing is refused.
use mathlib.Core.Path.{◌≡◌, refl, ◌∙◌, ap}
use mathlib.Core.Bool.{Bool, true, and-eq-true_iff}
use mathlib.Core.List.{List, [], ◌∷◌, ◌++◌, map, flat_map, zip_with}
use Prim.Native.Nat.{ℕ, ◌*◌, ◌≤◌}
use native.Mathlib.Omega.{arith}
use lib.Dec.{eqb}
use lib.ListN.{length, get_or, drop}
use lib.Seq.{take-append_seam}
use lib.IntN.{ℤ, pos}
use borrow.Author.Tests.{leb-true, le-leb, eqb-true, eq-eqb}
use Rattle.protocol.specs.Element.{width}
use Rattle.protocol.specs.declared.Settings.{Settings}
use Rattle.protocol.specs.declared.Parts.{Parts}
use Rattle.protocol.specs.Basic.{tabulate, all, choose, within, first, unless, granted}
use Rattle.protocol.specs.Settings.{settings_refusal, has_length, all_below, exponent, exponents}
use Rattle.text_format.specs.Text.{Line, Shape, Tables, text_limit, value_limit, narrow_limit, shape, settings_shape, shapes, shape_size}
use Rattle.text_format.specs.Text.{spot_at, spots, wanted, settings_values, contents, block, blocks, block_lines, text_of, block_fits, fits}
use Rattle.text_format.specs.Text.{lines_of, same_spot, same_spots, spots_of, values_of, well_formed, unsigned, column, unsigned_column}
use Rattle.text_format.specs.Text.{setting_in, settings_in, tables_in, look_refusal, loaded, entries_refusal, text_refusal, read_refusal, read_answer}
use Rattle.text_format.specs.Text.{read_exit}
use Rattle.text_format.specs.Text.{output_refusal, write_refusal, written, overwritten, write_answer, write_exit}
use Rattle.text_format.specs.RoundTrip.{outcome, Back}
use Rattle.protocol.proofs.Tests.{first_zero, unless-zero, and_intro}
use Rattle.text_format.proofs.LineLaws.{lines_of-written}
use Rattle.text_format.proofs.TableLaws.{Rising, Fit, parts, columns, written-spots, written-columns, block_lines-values}
use Rattle.text_format.proofs.TextLimits.{Allowed, allowed, Passed, passed, unrefused, lines-limited, contents-limited, below-limited, exponent-le}
use Rattle.text_format.proofs.ColumnLaws.{same_spots-refl, values_of-append}
use Rattle.claims.proofs.Unsigned.{unsigned_small, unsigned_back}

-- ---- The parts

-- the numbers of all parts, which are those of the shapes
abbrev pub part_numbers : List ℕ
part_numbers = 0 ∷ 1 ∷ 2 ∷ 3 ∷ 4 ∷ 5 ∷ 6 ∷ 7 ∷ []

pub shapes-rise : (S : Settings) (P : Parts) → Rising 0 (parts (shapes S P))
unfolding shapes shape settings_shape
shapes-rise S P = (omega arith, (omega arith, (omega arith, (omega arith, (omega arith, (omega arith, (omega arith, (omega arith, tt))))))))

fit : (bs : List Shape) (vs : List (List ℤ)) → length vs ≡ length bs → all block_fits (zip_with block bs vs) ≡ true → Fit bs vs
unfolding all zip_with block_fits block has_length
fit [] [] e h = tt
fit [] (v ∷ vs) e h = absurd (omega arith)
fit (b ∷ bs) [] e h = absurd (omega arith)
fit (b ∷ bs) (v ∷ vs) e h =
    let (here, more) = (and-eq-true_iff (eqb (length v) (shape_size b)) (all block_fits (zip_with block bs vs))).0 h in
    (eqb-true (length v) (shape_size b) here, fit bs vs (omega arith) more)

pub fit_all : (bs : List Shape) (vs : List (List ℤ)) → Fit bs vs → all block_fits (zip_with block bs vs) ≡ true
unfolding all zip_with block_fits block has_length
fit_all [] [] h = refl
fit_all [] (v ∷ vs) h = absurd h
fit_all (b ∷ bs) [] h = absurd h
fit_all (b ∷ bs) (v ∷ vs) h = and_intro (eq-eqb (length v) (shape_size b) h.0) (fit_all bs vs h.1)

fits-fit : (S : Settings) (P : Parts) (t : Tables) → fits S P t ≡ true → Fit (shapes S P) (contents S t)
unfolding fits blocks
fits-fit S P t h = fit (shapes S P) (contents S t) (unfold shapes contents in refl) h

-- ---- Written, then read

module _ (S : Settings) (P : Parts) (t : Tables) where
  abbrev pub lines : List Line
  lines = flat_map block_lines (blocks S P t)

  pub lines-read : Allowed S → Passed S t → lines_of (text_of S P t) ≡ lines
  unfolding text_of blocks
  lines-read a p = lines_of-written lines (lines-limited (shapes S P) (contents S t) (contents-limited S P t a p))

  settings-values : values_of lines
      ≡ settings_values S ++ values_of (flat_map block_lines (drop 1 (blocks S P t)))
  unfolding blocks shapes contents settings_values flat_map zip_with settings_shape shape choose shape_size
  settings-values =
      values_of-append (block_lines (block settings_shape (settings_values S))) rest ∙ ap (λ (v : List ℤ). v ++ values_of rest) (block_lines-values settings_shape (settings_values S) refl)
    where
      rest : List Line
      rest = flat_map block_lines (drop 1 (blocks S P t))

  pub settings_back : Allowed S → settings_in lines ≡ S
  unfolding settings_in setting_in settings_values
  settings_back a =
      let wide : width ≤ narrow_limit = unfold narrow_limit in (omega arith) in
      rw settings-values
      (λ j. record {
        degree = unsigned_small narrow_limit S.degree (omega (arith, a.degree)) j;
        depth = unsigned_small narrow_limit S.depth (omega (arith, a.depth)) j;
        modulus = unsigned_small value_limit S.modulus a.modulus j;
        bound = unsigned_small narrow_limit S.bound (omega (arith, a.bound)) j;
        rows = unsigned_small narrow_limit S.rows (omega (arith, a.rows)) j;
      })

  module _ (f : Fit (shapes S P) (contents S t)) where
    spots-wanted : spots_of lines ≡ wanted S P
    unfolding wanted blocks
    spots-wanted = written-spots (shapes S P) (contents S t) f

    columns_back : columns part_numbers lines ≡ contents S t
    unfolding blocks shapes settings_shape shape
    columns_back = written-columns 0 (shapes S P) (contents S t) (shapes-rise S P) f

    column_back : (p : ℕ) → get_or (columns part_numbers lines) p [] ≡ get_or (contents S t) p []
    column_back p = ap (λ (vs : List (List ℤ)). get_or vs p []) columns_back

    -- the residues of a part that are below q, and the challenges
    residues_back : Allowed S → (p : ℕ) (v : List ℕ) → column p lines ≡ map pos v → all_below S v ≡ true → map (unsigned value_limit) (column p lines) ≡ v
    unfolding all_below
    residues_back a p v e h = ap (map (unsigned value_limit)) e ∙ unsigned_back value_limit v (below-limited value_limit S.modulus v a.modulus h)

    exponents_back : Allowed S → (v : List ℕ) → column 5 lines ≡ map pos v → exponents S v ≡ true → map (unsigned narrow_limit) (column 5 lines) ≡ v
    unfolding exponents exponent
    exponents_back a v e h = ap (map (unsigned narrow_limit)) e ∙ unsigned_back narrow_limit v (below-limited narrow_limit (2 * S.degree) v (exponent-le S a) h)

    pub tables_back : Allowed S → Passed S t → tables_in lines ≡ t
    unfolding tables_in unsigned_column contents
    tables_back a p =
        let k = residues_back a 1 t.key (column_back 1) p.key in
        let c = residues_back a 3 t.commitment (column_back 3) p.commitment in
        let r = residues_back a 4 t.rounds (column_back 4) p.rounds in
        let e = exponents_back a t.challenges (column_back 5) p.challenges in
        let v = residues_back a 7 t.claims (column_back 7) p.claims in
        λ i. record { key = k i; message = column_back 2 i; commitment = c i; rounds = r i; challenges = e i; last = column_back 6 i; claims = v i }

    well-formed : Allowed S → Passed S t → well_formed (text_of S P t) ≡ true
    unfolding well_formed wanted shapes flat_map settings_shape shape choose shape_size spots spot_at tabulate same_spots same_spot
    well-formed a p = rw (lines-read a p, spots-wanted)

    -- the lent tables having their lengths
    pub read_back : Allowed S → Passed S t → settings_refusal S ≡ 0 → length (text_of S P t) ≤ text_limit → (lent : Bool) → lent ≡ true → text_refusal P lent (text_of S P t) ≡ 0
    unfolding text_refusal look_refusal first unless
    read_back a p s n lent h =
        rw (
          le-leb (length (text_of S P t)) text_limit n,
          well-formed a p,
          lines-read a p,
          settings_back a,
          s,
          spots-wanted,
          same_spots-refl (wanted S P),
          h,
          tables_back a p,
          unrefused S true t p refl,
        )

-- what the writer asks of settings, tables and output slice
pub record Writable (S : Settings) (P : Parts) (t : Tables) (out : List ℕ) : Type 0 where
  pub settings : settings_refusal S ≡ 0
  pub tables : fits S P t ≡ true
  pub entries : entries_refusal S (all (within narrow_limit) t.last) t ≡ 0
  pub short : length (text_of S P t) ≤ text_limit
  pub room : length (text_of S P t) ≤ length out

writable : (S : Settings) (P : Parts) (t : Tables) (out : List ℕ) → write_refusal S P t (length out) ≡ 0 → Writable S P t out
unfolding write_refusal output_refusal
writable S P t out h =
    let (h₁, r₁) = first_zero _ _ h in
    let (h₂, r₂) = first_zero _ _ r₁ in
    let (h₃, r₃) = first_zero _ _ r₂ in
    let (h₄, r₄) = first_zero _ _ r₃ in
    let (h₅, r₅) = first_zero _ _ h₄ in
    let (h₆, r₆) = first_zero _ _ r₅ in
    record {
      settings = h₁;
      tables = unless-zero 6 _ h₂;
      entries = h₃;
      short = leb-true _ text_limit (unless-zero 0 _ h₅);
      room = leb-true _ (length out) (unless-zero 6 _ h₆);
    }

pub writable_refusal : (S : Settings) (P : Parts) (t : Tables) (out : List ℕ) → Writable S P t out → write_refusal S P t (length out) ≡ 0
unfolding write_refusal output_refusal first unless
writable_refusal S P t out w =
    rw (w.settings, w.tables, w.entries, le-leb (length (text_of S P t)) text_limit w.short, le-leb (length (text_of S P t)) (length out) w.room)

text-written : (S : Settings) (P : Parts) (t : Tables) (out : List ℕ) → write_refusal S P t (length out) ≡ 0 → outcome S P t out ≡ text_of S P t
unfolding outcome write_answer write_exit written overwritten granted
text-written S P t out h = rw h (take-append_seam (text_of S P t) (drop (length (text_of S P t)) out))

pub back : (S : Settings) (P : Parts) (t : Tables) (out : List ℕ) (lent : Tables) → write_refusal S P t (length out) ≡ 0 → fits S P lent ≡ true
    → Back S P t out lent
unfolding read_refusal read_answer read_exit loaded granted
back S P t out lent h f =
    let w = writable S P t out h in
    let a = allowed S w.settings in
    let p = passed S _ t w.entries (λ e. e) in
    let g = fits-fit S P t w.tables in
    let r : read_refusal P (text_of S P t) lent ≡ 0 = read_back S P t g a p w.settings w.short _ (ap (λ R. fits R P lent) (ap settings_in (lines-read S P t a p) ∙ settings_back S P t a) ∙ f) in
    record {
      answer = rw (text-written S P t out h, r, lines-read S P t a p, settings_back S P t a);
      tables = rw (text-written S P t out h, r, lines-read S P t a p, tables_back S P t g a p);
    }
