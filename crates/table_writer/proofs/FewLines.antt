-- A text that is not too long has few lines, and so each of its tables has few numbers where there is a line for each.
--
--   part-few   the numbers of a part
use mathlib.Core.Path.{◌≡◌, refl, ap}
use mathlib.Core.Bool.{true}
use mathlib.Core.List.{List, [], ◌∷◌, flat_map}
use mathlib.Core.Option
use mathlib.Core.Option.{Option, none, some}
use Prim.Native.Nat.{ℕ, zero, suc, ◌*◌, ◌<◌, ◌≤◌}
use native.Mathlib.Omega.{arith}
use borrow.Author.Tests.{leb-true}
use lib.ListN.{length, get_or, length-append, length-map}
use Rattle.protocol.specs.declared.Settings.{Settings}
use Rattle.protocol.specs.declared.Parts.{Parts}
use Rattle.text_format.specs.Text.{Line, Shape, names, text_limit, shapes, shape_size, settings_shape, spots, wanted, lines_text, parsed, lines_of, spots_of, same_spots, settings_in, look_refusal}
use Rattle.text_format.proofs.ColumnLaws.{same_spots_eq}
use Rattle.text_format.proofs.LineLaws.{parsed-text}
use Rattle.protocol.proofs.Tests.{first_zero, unless-zero}
use Rattle.text_parts.specs.Parts.{table_count, part_shape, cells_room}
use Rattle.text_parts.proofs.Cells.{spots-count}
use Rattle.table_writer.proofs.WholeText.{lines_least}

lines-within : (text : List ℕ) → 8 * length (lines_of text) ≤ length text
unfolding lines_of
lines-within text = go (parsed text) refl
  where
    go : (o : Option (List Line)) → parsed text ≡ o → 8 * length (Option.get_or o []) ≤ length text
    go none e = omega arith
    go (some ls) e = omega (arith, lines_least ls, ap length (parsed-text text ls e).1, length-append names (lines_text ls))

-- a part has no more lines than all parts have
part-within : (bs : List Shape) (z : Shape) (k : ℕ) → k < length bs → shape_size (get_or bs k z) ≤ length (flat_map spots bs)
unfolding flat_map
part-within [] z k h = absurd (omega arith)
part-within (b ∷ bs) z zero h = omega (arith, spots-count b, length-append (spots b) (flat_map spots bs))
part-within (b ∷ bs) z (suc k) h = omega (arith, part-within bs z k (omega arith), length-append (spots b) (flat_map spots bs))

module _ (text : List ℕ) (P : Parts) where
  abbrev S : Settings
  S = settings_in (lines_of text)

  pub part-few : look_refusal text ≡ 0 → same_spots (spots_of (lines_of text)) (wanted S P) ≡ true → (k : ℕ) → k ≤ table_count → shape_size (part_shape S P k) ≤ cells_room
  unfolding look_refusal text_limit spots_of wanted part_shape shapes
  part-few look same k h =
      let short : length text ≤ text_limit = leb-true (length text) text_limit (unless-zero 0 _ (first_zero _ _ look).0) in
      let order : spots_of (lines_of text) ≡ wanted S P = same_spots_eq _ _ same in
      omega (arith, short, lines-within text, ap length order, length-map (lines_of text) (λ m. m.spot), part-within (shapes S P) settings_shape k (omega arith))
