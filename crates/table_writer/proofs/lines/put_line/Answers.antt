-- The spot, a minus where the value is below zero, and its magnitude with a line feed behind it.
use Rattle.std.proofs.Common.{◌≡◌, [], ◌∷◌, ◌++◌, List, ℕ, length, ap, ◌∙◌, arith, length-append, append_assoc, rules}
use lib.IntN.{nat_abs}
use mir.Facts.{to_z-of_z}
use Rattle.text_format.specs.Text.{line_text}
use Rattle.table_writer.specs.Put.{field, spot_text, line_at}
use Rattle.table_writer.proofs.LineTexts.{spot_most, line-spot, value-below, value-from}
use Rattle.table_writer.proofs.lines.put_line.Goals as goal
use Rattle.table_writer.proofs.lines.put_line.Goals.{then-value-lt0, else-value-lt0}

pub push-requires : goal.push-requires
push-requires g c =
    let a = c.args in
    (search rules, omega (arith, ap length c.put_spot.ensures, length-append a.text.now (spot_text a.part a.cell), spot_most a.part a.cell))

pub put_field-requires : goal.put_field-requires
put_field-requires g c =
    let a = c.args in
    let spot = ap length c.put_spot.ensures in
    let long = length-append a.text.now (spot_text a.part a.cell) in
    let most = spot_most a.part a.cell in
    elim c.if-value-lt0.branch [
      | then-value-lt0 w ↦ (search rules, omega (arith, ap length w.text-is, ap length w.push.ensures, length-append c.put_spot.new.text (45 ∷ [])))
      | else-value-lt0 w ↦ (search rules, omega (arith, ap length w.text-is))
    ]

-- what stands behind the spot
behind : (text before spot end whole : List ℕ) → before ≡ text ++ spot → spot ++ end ≡ whole → before ++ end ≡ text ++ whole
behind text before spot end whole e h = ap (λ t. t ++ end) e ∙ append_assoc text spot end ∙ ap (λ t. text ++ t) h

pub returns : goal.returns
returns g c =
    let a = c.args in
    let fits = c.ranges.value in
    let m = c.unsigned_abs.result in
    let magnitude : m ≡ nat_abs a.value = c.unsigned_abs.ensures.value ∙ ap nat_abs (to_z-of_z fits) in
    elim c.if-value-lt0.branch [
      | then-value-lt0 w ↦
          c.put_field.ensures
          ∙ ap (λ t. t ++ field m 10) (w.text-is ∙ w.push.ensures)
          ∙ append_assoc c.put_spot.new.text (45 ∷ []) (field m 10)
          ∙ ap (λ n. c.put_spot.new.text ++ (45 ∷ field n 10)) magnitude
          ∙ behind a.text.now c.put_spot.new.text (spot_text a.part a.cell) _ (line_text (line_at a.part a.cell a.value)) c.put_spot.ensures
          (ap (λ e. spot_text a.part a.cell ++ e) (value-below a.value fits w.if-value-lt0.true) ∙ line-spot a.part a.cell a.value)
      | else-value-lt0 w ↦
          c.put_field.ensures
          ∙ (λ j. w.text-is j ++ field (magnitude j) 10)
          ∙ behind a.text.now c.put_spot.new.text (spot_text a.part a.cell) _ (line_text (line_at a.part a.cell a.value)) c.put_spot.ensures
          (ap (λ e. spot_text a.part a.cell ++ e) (value-from a.value fits w.if-value-lt0.false) ∙ line-spot a.part a.cell a.value)
    ]
