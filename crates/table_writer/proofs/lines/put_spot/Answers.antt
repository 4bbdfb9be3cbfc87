-- Three numbers, each with a space behind it.
use Rattle.std.proofs.Common.{length, ap, arith, length-append, append_assoc, rules}
use Rattle.table_writer.specs.Put.{field, spot_text}
use Rattle.table_writer.proofs.LineTexts.{field_most}
use Rattle.table_writer.proofs.lines.put_spot.Goals as goal

pub put_field-requires-2 : goal.put_field-requires-2
put_field-requires-2 g c =
    let text = c.args.text.now in
    let n = c.from.result in
    (search rules, omega (arith, ap length c.put_field.ensures, length-append text (field n 32), field_most n 32))

pub put_field-requires-3 : goal.put_field-requires-3
put_field-requires-3 g c =
    let text = c.args.text.now in
    let n = c.from.result in
    let m = c.from-2.result in (
      search rules,
      omega (
        arith,
        ap length c.put_field.ensures,
        length-append text (field n 32),
        field_most n 32,
        ap length c.put_field-2.ensures,
        length-append c.put_field.new.text (field m 32),
        field_most m 32,
      ),
    )

pub returns : goal.returns
unfolding spot_text
returns g c = simp (c.put_field-3.ensures, c.put_field-2.ensures, c.put_field.ensures, c.from.ensures, c.from-2.ensures, c.from-3.ensures, append_assoc)
