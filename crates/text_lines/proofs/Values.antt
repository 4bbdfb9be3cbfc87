-- Values of lines at wanted spots, one after the other.
--
--   same_spot_lem, spot_same      the test whether two spots are the same, and what it says
--   value-..                      the value of a line at a spot
--   prefix vs o                   what was read before, and what is read next
--   values-..                     values of lines, one after the other
use mathlib.Core.Path.{◌≡◌, refl, sym, ap, subst, ◌∙◌}
use mathlib.Core.Bool.{Bool, true, false, ◌&&◌, false≢true}
use mathlib.Core.List.{List, [], ◌∷◌, ◌++◌, append_assoc, append-nil}
use mathlib.Core.Option.{Option, none, some, bind}
use Prim.Native.Nat.{ℕ, ◌≤◌}
use native.Mathlib.Omega.{arith}
use native.Mathlib.Decide.{dec_lt}
use borrow.Author.Tests.{eq-eqb, eqb-true}
use lib.Dec.{eqb}
use lib.ListN.{length, drop}
use lib.IntN.{ℤ}
use Rattle.protocol.specs.Answers.Number.{Value, Refused}
use Rattle.text_format.specs.Text.{Spot, Line, bytes, names, settings_shape, spots, keep, read_line, begins_with_names, same_spot, number_answer}
use Rattle.protocol.proofs.Tests.{and_split, and_intro}
use Rattle.text_format.specs.Lines.{read_value, read_values, read_settings}
use Rattle.text_format.proofs.NumeralLaws.{keep_some}
use Rattle.text_names.proofs.Names.{names-short}
use Rattle.text_lines.proofs.Counts.{Suffix, Found, found, keep_yes, keep_no, answer_value, answer_refused}
use Rattle.text_lines.proofs.Rows.{bind-some, bind-none, line_suffix}

-- ---- spots

module _ (a b : Spot) where
  pub same_spot_lem : a.part ≡ b.part → a.item ≡ b.item → a.place ≡ b.place → same_spot a b ≡ true
  unfolding same_spot
  same_spot_lem p i k = and_intro (eq-eqb _ _ p) (and_intro (eq-eqb _ _ i) (eq-eqb _ _ k))

  pub spot_same : same_spot a b ≡ true → a ≡ b
  unfolding same_spot
  spot_same t =
      let (p, more) = and_split {a = eqb a.part b.part} {b = eqb a.item b.item && eqb a.place b.place} t in
      let (i, k) = and_split {a = eqb a.item b.item} {b = eqb a.place b.place} more in
      λ j. record {
        part = eqb-true a.part b.part p j;
        item = eqb-true a.item b.item i j;
        place = eqb-true a.place b.place k j;
      }

-- ---- the value of a line

module _ (s : Spot) (bs : List ℕ) where
  pub value-unread : read_line bs ≡ none → read_value s bs ≡ none
  unfolding read_value
  value-unread e = bind-none (read_line bs) _ e

  pub value_line : (l : Line) (rest : List ℕ) → read_line bs ≡ some (l, rest) → read_value s bs ≡ keep (same_spot l.spot s) (l.value, rest)
  unfolding read_value
  value_line l rest e = bind-some (read_line bs) (l, rest) _ e

  pub value-elsewhere : (l : Line) (rest : List ℕ) → read_line bs ≡ some (l, rest) → same_spot l.spot s ≡ false → read_value s bs ≡ none
  value-elsewhere l rest e t = value_line l rest e ∙ keep_no _ _ t

  pub value_read : (l : Line) (rest : List ℕ) → read_line bs ≡ some (l, rest) → same_spot l.spot s ≡ true → read_value s bs ≡ some (l.value, rest)
  value_read l rest e t = value_line l rest e ∙ keep_yes _ _ t

-- a value that was read is that of a line at the spot
abbrev kept : Spot → Option (Line × List ℕ) → Option (ℤ × List ℕ)
kept s o = bind o (λ r. keep (same_spot r.0.spot s) (r.0.value, r.1))

kept_line : (s : Spot) (v : ℤ) (rest : List ℕ) (o : Option (Line × List ℕ)) → kept s o ≡ some (v, rest)
    → (l : Line) × (o ≡ some (l, rest)) × (l.spot ≡ s) × (l.value ≡ v)
unfolding bind
kept_line s v rest none e = let z : ◌≡◌ {A = ℕ} 0 1 = cc in absurd (omega arith)
kept_line s v rest (some (l, behind)) e =
    let (t, same) = keep_some (same_spot l.spot s) (l.value, behind) (v, rest) e in
    (l, (λ j. some (l, (same j).1)), spot_same l.spot s t, ap (λ r. r.0) same)

pub value_of : (s : Spot) (bs : List ℕ) (v : ℤ) (rest : List ℕ) → read_value s bs ≡ some (v, rest) → (l : Line) × (read_line bs ≡ some (l, rest)) × (l.spot ≡ s) × (l.value ≡ v)
unfolding read_value
value_of s bs v rest e = kept_line s v rest (read_line bs) e

value-suffix : (s : Spot) (bs : List ℕ) (v : ℤ) (rest : List ℕ) → read_value s bs ≡ some (v, rest) → Suffix rest bs
value-suffix s bs v rest e = let (l, p, q, r) = value_of s bs v rest e in line_suffix bs l rest p

-- what an answer says of a value
module _ (text : List ℕ) (s : Spot) (at : ℕ) where
  pub valued : (v : ℤ) (next : ℕ) → number_answer text (read_value s (drop at text)) ≡ Value v next → Found (read_value s) text at v next
  valued v next e =
      let (rest, o, p) = answer_value text (read_value s (drop at text)) v next e in
      subst (Found (read_value s) text at v) (sym p) (found (read_value s) text at v rest (value-suffix s (drop at text) v rest o) o)

  pub unvalued : (number : ℕ) → number_answer text (read_value s (drop at text)) ≡ Refused number → read_value s (drop at text) ≡ none
  unvalued number e = answer_refused text _ number e

-- ---- values, one after the other

unfoldable pub prefix : List ℤ → Option (List ℤ × List ℕ) → Option (List ℤ × List ℕ)
prefix vs none = none
prefix vs (some (ws, rest)) = some (vs ++ ws, rest)

pub prefix-nothing : (o : Option (List ℤ × List ℕ)) → prefix [] o ≡ o
unfolding prefix
prefix-nothing none = refl
prefix-nothing (some (ws, rest)) = refl

pub prefix-prefix : (vs ws : List ℤ) (o : Option (List ℤ × List ℕ)) → prefix vs (prefix ws o) ≡ prefix (vs ++ ws) o
unfolding prefix
prefix-prefix vs ws none = refl
prefix-prefix vs ws (some (xs, rest)) = λ j. some (sym (append_assoc vs ws xs) j, rest)

-- the rest after a value
rest_of : ℤ → Option (List ℤ × List ℕ) → Option (List ℤ × List ℕ)
rest_of v o = bind o (λ r. some (v ∷ r.0, r.1))

rest_prefix : (v : ℤ) (o : Option (List ℤ × List ℕ)) → rest_of v o ≡ prefix (v ∷ []) o
unfolding rest_of bind prefix
rest_prefix v none = refl
rest_prefix v (some (ws, rest)) = refl

module _ (s : Spot) (ss : List Spot) (bs : List ℕ) where
  pub values-stop : read_value s bs ≡ none → read_values (s ∷ ss) bs ≡ none
  unfolding read_values
  values-stop e = bind-none (read_value s bs) _ e

  pub values-step : (v : ℤ) (rest : List ℕ) → read_value s bs ≡ some (v, rest) → read_values (s ∷ ss) bs ≡ prefix (v ∷ []) (read_values ss rest)
  unfolding read_values rest_of
  values-step v rest e = bind-some (read_value s bs) (v, rest) _ e ∙ rest_prefix v (read_values ss rest)

-- one value more of those that are read
pub values_more : (o : Option (List ℤ × List ℕ)) (vs : List ℤ) (s : Spot) (ss : List Spot) (bs : List ℕ) (v : ℤ) (rest : List ℕ)
    → o ≡ prefix vs (read_values (s ∷ ss) bs) → read_value s bs ≡ some (v, rest) → o ≡ prefix (vs ++ (v ∷ [])) (read_values ss rest)
values_more o vs s ss bs v rest e f = e ∙ ap (prefix vs) (values-step s ss bs v rest f) ∙ prefix-prefix vs (v ∷ []) (read_values ss rest)

pub values-over : (o : Option (List ℤ × List ℕ)) (vs : List ℤ) (s : Spot) (ss : List Spot) (bs : List ℕ)
    → o ≡ prefix vs (read_values (s ∷ ss) bs) → read_value s bs ≡ none → o ≡ none
unfolding prefix
values-over o vs s ss bs e f = e ∙ ap (prefix vs) (values-stop s ss bs f)

pub values-done : (o : Option (List ℤ × List ℕ)) (vs : List ℤ) (bs : List ℕ) → o ≡ prefix vs (read_values [] bs) → o ≡ some (vs, bs)
unfolding prefix read_values
values-done o vs bs e = e ∙ (λ j. some (append-nil vs j, bs))

-- ---- the lines that every text begins with

pub behind-names : (text : List ℕ) → drop (length names) text ≡ drop 22 text
unfolding names bytes
behind-names text = refl

pub names_long : (text : List ℕ) → begins_with_names text ≡ true → 22 ≤ length text
names_long text t = elim (dec_lt (length text) 22) [ yes l ↦ absurd (false≢true (sym (names-short text l) ∙ t)) | no g ↦ omega arith ]

-- the lines behind the names line, by the test whether it is there
abbrev named : List ℕ → Bool → Option (List ℤ × List ℕ)
named text b = elim b as (λ _. Option (List ℤ × List ℕ)) [ true ↦ read_values (spots settings_shape) (drop (length names) text) | false ↦ none ]

pub settings-unnamed : (text : List ℕ) → begins_with_names text ≡ false → read_settings text ≡ none
unfolding read_settings
settings-unnamed text t = ap (named text) t

pub settings-named : (text : List ℕ) → begins_with_names text ≡ true → read_settings text ≡ read_values (spots settings_shape) (drop 22 text)
unfolding read_settings
settings-named text t = ap (named text) t ∙ ap (read_values (spots settings_shape)) (behind-names text)
