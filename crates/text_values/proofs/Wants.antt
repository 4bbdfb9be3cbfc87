-- The wanted spots of a text, part after part.
--
--   spots_from S P k          the spots from part k on
--   values-then, values-never  values of one part, and then of others
use mathlib.Core.Path.{◌≡◌, refl, sym, ap, ◌∙◌}
use mathlib.Core.List.{List, [], ◌∷◌, ◌++◌, flat_map}
use mathlib.Core.Option.{Option, none, some}
use Prim.Native.Nat.{ℕ, ◌+◌, ◌<◌}
use lib.ListN.{drop}
use lib.IntN.{ℤ}
use Rattle.protocol.specs.declared.Settings.{Settings}
use Rattle.protocol.specs.declared.Parts.{Parts}
use Rattle.text_format.specs.Text.{Spot, settings_shape, shapes, spots, wanted}
use Rattle.text_format.specs.Lines.{read_value, read_values}
use Rattle.text_parts.specs.Parts.{table_count, part_shape}
use Rattle.text_values.specs.Parts.{part_spots}
use Rattle.text_parts.proofs.From.{from_cons}
use Rattle.text_lines.proofs.Values.{prefix, prefix-nothing, prefix-prefix, values-step, values-stop}

-- with the settings
abbrev pub part_count : ℕ
part_count = table_count + 1

module _ (S : Settings) (P : Parts) where
  unfoldable pub spots_from : ℕ → List Spot
  spots_from k = flat_map spots (drop k (shapes S P))

  pub spots-from_next : (k : ℕ) → k < part_count → spots_from k ≡ spots (part_shape S P k) ++ spots_from (k + 1)
  unfolding spots_from part_shape shapes flat_map
  spots-from_next k h = ap (flat_map spots) (from_cons (shapes S P) k settings_shape h)

  pub spots-from-end : spots_from part_count ≡ []
  unfolding spots_from shapes flat_map
  spots-from-end = refl

  pub spots-from_one : part_spots S P ≡ spots_from 1
  unfolding spots_from part_spots
  spots-from_one = refl

  pub wanted_is : wanted S P ≡ spots settings_shape ++ part_spots S P
  unfolding wanted part_spots shapes flat_map
  wanted_is = refl

-- ---- values of some lines, and then of others

-- what is read behind the values of o
and_then : Option (List ℤ × List ℕ) → (List ℕ → Option (List ℤ × List ℕ)) → Option (List ℤ × List ℕ)
and_then none k = none
and_then (some (vs, rest)) k = prefix vs (k rest)

and-then-prefix : (v : ℤ) (o : Option (List ℤ × List ℕ)) (k : List ℕ → Option (List ℤ × List ℕ)) → prefix (v ∷ []) (and_then o k) ≡ and_then (prefix (v ∷ []) o) k
unfolding and_then prefix
and-then-prefix v none k = refl
and-then-prefix v (some (ws, end)) k = prefix-prefix (v ∷ []) ws (k end)

values-append : (ss tt : List Spot) (bs : List ℕ) → read_values (ss ++ tt) bs ≡ and_then (read_values ss bs) (read_values tt)
unfolding and_then read_values
values-append [] tt bs = sym (prefix-nothing (read_values tt bs))
values-append (s ∷ ss) tt bs = by_first (read_value s bs) refl (values-append ss tt)
  where
    by_first : (o : Option (ℤ × List ℕ)) → read_value s bs ≡ o → ((on : List ℕ) → read_values (ss ++ tt) on ≡ and_then (read_values ss on) (read_values tt))
        → read_values ((s ∷ ss) ++ tt) bs ≡ and_then (read_values (s ∷ ss) bs) (read_values tt)
    by_first none e more = values-stop s (ss ++ tt) bs e ∙ sym (ap (λ o. and_then o (read_values tt)) (values-stop s ss bs e))
    by_first (some (v, on)) e more =
        values-step s (ss ++ tt) bs v on e ∙ ap (prefix (v ∷ [])) (more on) ∙ and-then-prefix v (read_values ss on) (read_values tt)
        ∙ sym (ap (λ o. and_then o (read_values tt)) (values-step s ss bs v on e))

module _ (ss tt : List Spot) (bs : List ℕ) where
  pub values-then : (vs : List ℤ) (rest : List ℕ) → read_values ss bs ≡ some (vs, rest) → read_values (ss ++ tt) bs ≡ prefix vs (read_values tt rest)
  unfolding and_then
  values-then vs rest e = values-append ss tt bs ∙ ap (λ o. and_then o (read_values tt)) e

  pub values-never : read_values ss bs ≡ none → read_values (ss ++ tt) bs ≡ none
  unfolding and_then
  values-never e = values-append ss tt bs ∙ ap (λ o. and_then o (read_values tt)) e
