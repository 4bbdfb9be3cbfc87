-- Lines at wanted spots, among all lines of a text.
--
--   lines_before ls o      the lines ls, and then those of o
--   same_spots-..          the test whether spots are the same
--   values-lines           values that were read are those of lines at these spots, and the other lines follow
--   values-elsewhere       where they were not read, the lines are not at these spots
--   values-room            every value takes at least eight bytes
use mathlib.Core.Path.{◌≡◌, refl, sym, ap, ◌∙◌}
use mathlib.Core.Bool.{Bool, true, false, ◌&&◌, false≢true}
use mathlib.Core.List.{List, [], ◌∷◌, ◌++◌}
use mathlib.Core.Option.{Option, none, some, bind, some-injective}
use Prim.Native.Nat.{ℕ, ◌+◌, ◌*◌, ◌≤◌}
use native.Mathlib.Omega.{arith}
use lib.ListN.{length, take, length-map}
use lib.IntN.{ℤ}
use Rattle.text_format.specs.Text.{Spot, Line, read_line, same_spot, same_spots, spots_of, values_of}
use Rattle.protocol.proofs.Tests.{and_split, and_intro}
use Rattle.text_format.specs.Lines.{read_value, read_values, all_lines}
use Rattle.text_lines.proofs.Counts.{Suffix, suffix_of}
use Rattle.text_lines.proofs.Rows.{line_suffix, line_shorter, all_next, all_some}
use Rattle.text_lines.proofs.Values.{same_spot_lem, spot_same, value_of, value_read, prefix, values-step, values-stop}

-- ---- the same spots

pub same_spots-self : (ss : List Spot) → same_spots ss ss ≡ true
unfolding same_spots
same_spots-self [] = refl
same_spots-self (s ∷ ss) = and_intro (same_spot_lem s s refl refl refl) (same_spots-self ss)

pub spots_same : (ss tt : List Spot) → same_spots ss tt ≡ true → ss ≡ tt
unfolding same_spots
spots_same [] [] t = refl
spots_same [] (b ∷ bs) t = absurd (false≢true t)
spots_same (a ∷ rest) [] t = absurd (false≢true t)
spots_same (a ∷ rest) (b ∷ bs) t =
    let (p, q) = and_split {a = same_spot a b} {b = same_spots rest bs} t in
    λ j. spot_same a b p j ∷ spots_same rest bs q j

-- ---- lines in front of others

unfoldable pub lines_before : List Line → Option (List Line) → Option (List Line)
lines_before ls none = none
lines_before ls (some more) = some (ls ++ more)

pub lines-nothing : (o : Option (List Line)) → o ≡ lines_before [] o
unfolding lines_before
lines-nothing none = refl
lines-nothing (some more) = refl

lines_more : (l : Line) (ls : List Line) (o : Option (List Line)) → bind (lines_before ls o) (λ ms. some (l ∷ ms)) ≡ lines_before (l ∷ ls) o
unfolding lines_before bind
lines_more l ls none = refl
lines_more l ls (some more) = refl

-- ---- values and lines

-- what was read, if it is given
prefix-value : (v : ℤ) (o : Option (List ℤ × List ℕ)) (vs : List ℤ) (rest : List ℕ) → prefix (v ∷ []) o ≡ some (vs, rest) → (ws : List ℤ) × (o ≡ some (ws, rest)) × (v ∷ ws ≡ vs)
unfolding prefix
prefix-value v none vs rest e = let z : ◌≡◌ {A = ℕ} 0 1 = cc in absurd (omega arith)
prefix-value v (some (ws, end)) vs rest e =
    let same : ◌≡◌ {A = List ℤ × List ℕ} (v ∷ ws, end) (vs, rest) = some-injective (v ∷ ws, end) (vs, rest) e in
    (ws, (λ j. some (ws, (same j).1)), ap (λ r. r.0) same)

-- the first value, and the others
record First (s : Spot) (ss : List Spot) (bs : List ℕ) (vs : List ℤ) (rest : List ℕ) : Type 0 where
  l : Line
  on : List ℕ
  ws : List ℤ
  line_is : read_line bs ≡ some (l, on)
  spot_is : l.spot ≡ s
  others : read_values ss on ≡ some (ws, rest)
  values_is : l.value ∷ ws ≡ vs

first_value : (s : Spot) (ss : List Spot) (bs : List ℕ) (vs : List ℤ) (rest : List ℕ) (o : Option (ℤ × List ℕ)) → read_value s bs ≡ o → read_values (s ∷ ss) bs ≡ some (vs, rest) → First s ss bs vs rest
first_value s ss bs vs rest none e f = let z : ◌≡◌ {A = ℕ} 0 1 = cc (values-stop s ss bs e) in absurd (omega arith)
first_value s ss bs vs rest (some (v, on)) e f =
    let (l, p, q, r) = value_of s bs v on e in
    let (ws, g, h) = prefix-value v (read_values ss on) vs rest (sym (values-step s ss bs v on e) ∙ f) in
    record { l = l; on = on; ws = ws; line_is = p; spot_is = q; others = g; values_is = (λ j. r j ∷ ws) ∙ h }

pub record Lines (ss : List Spot) (bs : List ℕ) (vs : List ℤ) (rest : List ℕ) : Type 0 where
  pub lines : List Line
  pub spots_are : spots_of lines ≡ ss
  pub values_are : values_of lines ≡ vs
  pub all_are : all_lines bs ≡ lines_before lines (all_lines rest)
  pub shorter : length rest + 8 * length lines ≤ length bs
  pub ends : Suffix rest bs

lines_first : (s : Spot) (ss : List Spot) (bs : List ℕ) (vs : List ℤ) (rest : List ℕ) (f : First s ss bs vs rest) → Lines ss f.on f.ws rest → Lines (s ∷ ss) bs vs rest
unfolding spots_of values_of
lines_first s ss bs vs rest f g = record {
  lines = f.l ∷ g.lines;
  spots_are = λ j. f.spot_is j ∷ g.spots_are j;
  values_are = (λ j. f.l.value ∷ g.values_are j) ∙ f.values_is;
  all_are = all_next bs f.l f.on f.line_is ∙ ap (λ o. bind o (λ ms. some (f.l ∷ ms))) g.all_are ∙ lines_more f.l g.lines (all_lines rest);
  shorter = omega (arith, line_shorter bs f.l f.on f.line_is, g.shorter);
  ends = suffix_of g.ends (line_suffix bs f.l f.on f.line_is);
}

pub values-lines : (ss : List Spot) (bs : List ℕ) (vs : List ℤ) (rest : List ℕ) → read_values ss bs ≡ some (vs, rest) → Lines ss bs vs rest
unfolding read_values spots_of values_of
values-lines [] bs vs rest e =
    let same : ◌≡◌ {A = List ℤ × List ℕ} ([], bs) (vs, rest) = some-injective ([], bs) (vs, rest) e in
    record {
      lines = [];
      spots_are = refl;
      values_are = ap (λ r. r.0) same;
      all_are = ap (λ r. all_lines r.1) same ∙ lines-nothing (all_lines rest);
      shorter = omega (arith, ap (λ r. length r.1) same);
      ends = (0, ap (λ r. r.1) (sym same));
    }
values-lines (s ∷ ss) bs vs rest e =
    let f = first_value s ss bs vs rest (read_value s bs) refl e in
    lines_first s ss bs vs rest f (values-lines ss f.on f.ws rest f.others)

-- a value takes at least eight bytes
pub values-room : (ss : List Spot) (bs : List ℕ) (vs : List ℤ) (rest : List ℕ) → read_values ss bs ≡ some (vs, rest) → 8 * length ss ≤ length bs
unfolding spots_of
values-room ss bs vs rest e =
    let l = values-lines ss bs vs rest e in
    omega (arith, l.shorter, ap length l.spots_are, length-map l.lines (λ m. m.spot))

prefix-none : (vs : List ℤ) (o : Option (List ℤ × List ℕ)) → prefix vs o ≡ none → o ≡ none
unfolding prefix
prefix-none vs none e = refl
prefix-none vs (some (ws, rest)) e = let z : ◌≡◌ {A = ℕ} 0 1 = cc in absurd (omega arith)

-- the first line is elsewhere, or the others are
elsewhere_first : (s : Spot) (ss : List Spot) (bs : List ℕ) (l : Line) (on : List ℕ) (tt : List Spot) → read_line bs ≡ some (l, on) → read_values (s ∷ ss) bs ≡ none
    → (read_values ss on ≡ none → same_spots tt ss ≡ false) → (b : Bool) → same_spot l.spot s ≡ b → (b && same_spots tt ss) ≡ false
elsewhere_first s ss bs l on tt p e more false t = refl
elsewhere_first s ss bs l on tt p e more true t =
    more (prefix-none (l.value ∷ []) (read_values ss on) (sym (values-step s ss bs l.value on (value_read s bs l on p t)) ∙ e))

pub values-elsewhere : (ss : List Spot) (bs : List ℕ) (ls : List Line) → read_values ss bs ≡ none → all_lines bs ≡ some ls → same_spots (take (length ss) (spots_of ls)) ss ≡ false
unfolding same_spots spots_of read_values
values-elsewhere [] bs ls e f = let z : ◌≡◌ {A = ℕ} 0 1 = cc in absurd (omega arith)
values-elsewhere (s ∷ ss) bs [] e f = refl
values-elsewhere (s ∷ ss) bs (l ∷ ls) e f =
    let (on, p, q) = all_some bs l ls f in
    elsewhere_first s ss bs l on (take (length ss) (spots_of ls)) p e (λ g. values-elsewhere ss on ls g q) (same_spot l.spot s) refl
