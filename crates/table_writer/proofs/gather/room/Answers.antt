-- What does not go into the room is more than it holds.
use Rattle.std.proofs.Common.{◌≡◌, ◌+◌, refl, sym, ap, ◌∙◌, get_or, arith}
use borrow.Author.Tests.{le-leb, lt-leb}
use Rattle.text_parts.specs.Parts.{table_count, values_room}
use Rattle.text_parts.specs.Flat.{start, total}
use Rattle.text_parts.proofs.Flat.{start_next, start_most}
use Rattle.table_writer.proofs.gather.room.Goals as goal

pub loop-length-init : goal.loop-length-init
unfolding start
loop-length-init c = (refl, omega arith)

pub returns-then-length-start : goal.returns-then-length-start
returns-then-length-start c =
    let l = c.loop-length in
    let n = c.args.lengths in
    sym (lt-leb (total n) values_room (omega (arith, start_most n l.length-index (omega arith), l.invariant.0)))

pub loop-length-preserved : goal.loop-length-preserved
loop-length-preserved c =
    let l = c.loop-length in
    let n = c.args.lengths in
    (ap (λ s. s + get_or n l.length-index 0) l.invariant.0 ∙ sym (start_next n l.length-index), omega arith)

pub returns : goal.returns
unfolding total
returns c =
    let l = c.loop-length in
    let n = c.args.lengths in
    let end : l.length-index ≡ table_count = omega arith in
    sym (le-leb (total n) values_room (omega (arith, l.invariant.0, ap (start n) end)))
