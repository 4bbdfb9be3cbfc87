-- The names line, and behind it the lines of part 0.
use Rattle.std.proofs.Common.{◌≡◌, [], ◌∷◌, ◌++◌, sym, ap, subst, ◌∙◌}
use mir.Syntax.{w64}
use Rattle.ranges.proofs.Magnitude.{through-bits}
use Rattle.protocol.specs.Basic.{choose}
use Rattle.text_format.specs.Text.{bytes, names, shape, settings_shape, shape_size}
use Rattle.table_writer.specs.Put.{Grows, part_text}
use Rattle.table_writer.specs.Tables.{settings_text}
use Rattle.table_writer.proofs.text.put_settings.Goals as goal

pub returns : goal.returns
unfolding settings_text settings_shape shape choose shape_size names bytes
returns c =
    let degree = through-bits w64 _ c.value.type_inv ∙ c.value.ensures in
    let depth = through-bits w64 _ c.value-2.type_inv ∙ c.value-2.ensures in
    let modulus = through-bits w64 _ c.value-3.type_inv ∙ c.value-3.ensures in
    let bound = through-bits w64 _ c.value-4.type_inv ∙ c.value-4.ensures in
    let rows = through-bits w64 _ c.value-5.type_inv ∙ c.value-5.ensures in
    let shape_is = c.settings_shape.ensures in
    let start : c.extend.new.self ≡ names = c.extend.ensures ∙ ap (λ t. t ++ names) c.requires in
    subst (λ l. Grows l c.put_part.result c.put_part.new.text)
    (λ j. start j ++ part_text (shape_is j) (degree j ∷ depth j ∷ modulus j ∷ bound j ∷ rows j ∷ []))
    (c.put_part.ensures (sym (ap shape_size shape_is)))
