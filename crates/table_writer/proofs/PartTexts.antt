-- The text of a part, line by line, as far as the limit lets it go.
--
--   first                   a part up to line p
--   part-none, part-line    no line, and one line more
--   part-end, part-over     all lines, and too many
use mathlib.Core.Path.{◌≡◌, sym, ap, ◌∙◌}
use mathlib.Core.List.{List, [], ◌∷◌, ◌++◌, append_assoc, append-nil, flat_map}
use Prim.Native.Nat.{ℕ, ◌+◌, ◌<◌, ◌≤◌}
use native.Mathlib.Omega.{arith}
use native.Mathlib.Numerals.{add-one}
use lib.ListN.{length, get_or, take, drop, length-append, take-append-drop}
use lib.Seq.{take-suc, take_all}
use lib.IntN.{ℤ, pos}
use Rattle.text_format.specs.Text.{Line, Shape, text_limit, line_text, lines_text, shape_size, spot_at, block, block_lines}
use Rattle.protocol.proofs.Reading.{tabulate_length, tabulate_at}
use Rattle.text_format.proofs.LineLaws.{lines-append}
use Rattle.text_parts.specs.declared.Cell.{Cell}
use Rattle.text_parts.specs.Parts.{cell_at}
use Rattle.table_writer.specs.Put.{line_at, part_text}

-- ---- the lines of a part

module _ (b : Shape) (v : List ℤ) where
  abbrev pub lines : List Line
  lines = block_lines (block b v)

  -- the text up to line p
  abbrev pub first : ℕ → List ℕ
  first p = lines_text (take p lines)

  pub lines-count : length lines ≡ shape_size b
  unfolding block_lines block
  lines-count = tabulate_length (shape_size b) _

  abbrev line : ℕ → Line
  line p = line_at b.part (cell_at b.places p) (get_or v p (pos 0))

  line_at_lem : (p : ℕ) → p < shape_size b → get_or lines p (line 0) ≡ line p
  unfolding block_lines block spot_at cell_at
  line_at_lem p h = tabulate_at (shape_size b) _ (line 0) p h

  first_next : (p : ℕ) → p < shape_size b → first p ++ line_text (line p) ≡ first (p + 1)
  unfolding lines_text flat_map
  first_next p h =
      sym (ap (λ n. first n) (add-one p)
      ∙ ap lines_text (take-suc lines p (line 0) (omega (arith, lines-count)) ∙ ap (λ l. take p lines ++ (l ∷ [])) (line_at_lem p h))
      ∙ lines-append (take p lines) (line p ∷ [])
      ∙ ap (λ t. first p ++ t) (append-nil (line_text (line p))))

  first_rest : (p : ℕ) → first p ++ lines_text (drop p lines) ≡ part_text b v
  unfolding part_text
  first_rest p = sym (lines-append (take p lines) (drop p lines)) ∙ ap lines_text (take-append-drop p lines)

  -- what the loop keeps: the lines up to line p stand behind a text
  pub part-none : (text : List ℕ) → text ≡ text ++ first 0
  unfolding lines_text flat_map
  part-none text = sym (append-nil text)

  pub part-line : (p : ℕ) (c : Cell) (value : ℤ) (text text' : List ℕ) → p < shape_size b → c ≡ cell_at b.places p → value ≡ get_or v p (pos 0)
      → text' ≡ text ++ first p → text' ++ line_text (line_at b.part c value) ≡ text ++ first (p + 1)
  part-line p c value text text' h is holds e =
      (λ j. e j ++ line_text (line_at b.part (is j) (holds j)))
      ∙ append_assoc text (first p) (line_text (line p)) ∙ ap (λ x. text ++ x) (first_next p h)

  pub part-end : (p : ℕ) → shape_size b ≤ p → first p ≡ part_text b v
  unfolding part_text
  part-end p h = ap lines_text (take_all p lines (omega (arith, lines-count)))

  pub part-over : (p : ℕ) (text text' : List ℕ) → text' ≡ text ++ first p → text_limit < length text' → text_limit < length (text ++ part_text b v)
  part-over p text text' e over =
      omega (
        arith,
        over,
        ap length e,
        length-append text (first p),
        length-append text (part_text b v),
        ap length (first_rest p),
        length-append (first p) (lines_text (drop p lines)),
      )
