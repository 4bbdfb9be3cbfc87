-- A line that was read has bytes, so the place rises.
use Rattle.std.proofs.Common.{◌≡◌, ℕ, ◌<◌, List, ◌∷◌, length, drop, sym, ap, ◌∙◌, arith, length-drop, drop_of_length-le}
use Rattle.protocol.specs.Answers.{as_entry}
use Rattle.protocol.specs.declared.Line.{Line as Read}
use Rattle.text_format.specs.Text.{Line, read_line}
use Rattle.text_format.specs.Lines.{present, all_lines, read_line_at}
use Rattle.protocol.specs.Answers.Entry.{Found as Line-at}
use Rattle.text_lines.proofs.Counts.{Found}
use Rattle.text_lines.proofs.Rows.{present-bind, line, line_found, line_missed, line_shorter, all_end, all_next, all_none}
use Rattle.text_lines.proofs.lines.all_lines.Goals as goal

-- the line that was read
module _ (text : List ℕ) (at : ℕ) (l : Read) (is : read_line_at text at ≡ Line-at l.part l.item l.place l.value l.next) where
  abbrev read : Line
  read = line l.part l.item l.place l.value

  got : Found read_line text at read l.next
  got = line_found text at l.part l.item l.place l.value l.next is

  rises : at < length text → at < l.next
  rises h = omega (arith, line_shorter (drop at text) read (drop l.next text) got.is, length-drop at text, length-drop l.next text, got.within)

pub returns-in_default : goal.returns-in_default
unfolding present
returns-in_default c =
    let l = c.loop-at in
    let t = c.args.text.now in
    let some_left : 0 < length (drop l.at t) = omega (arith, length-drop l.at t) in
    let missed = line_missed t l.at (sym c.read_line.ensures.answer ∙ ap as_entry c.in_default.is) in
    sym (l.invariant ∙ ap present (all_none (drop l.at t) some_left missed))

pub loop-at-smaller : goal.loop-at-smaller
loop-at-smaller c =
    let t = c.args.text.now in
    let l = c.in-Some.line in
    let is : read_line_at t c.loop-at.at ≡ Line-at l.part l.item l.place l.value l.next = sym c.read_line.ensures.answer ∙ ap as_entry c.in-Some.is in
    omega (arith, rises t c.loop-at.at l is (omega arith), (got t c.loop-at.at l is).within)

pub loop-at-preserved : goal.loop-at-preserved
loop-at-preserved c =
    let t = c.args.text.now in
    let l = c.in-Some.line in
    let at = c.loop-at.at in
    let is : read_line_at t at ≡ Line-at l.part l.item l.place l.value l.next = sym c.read_line.ensures.answer ∙ ap as_entry c.in-Some.is in
    c.loop-at.invariant ∙ ap present (all_next (drop at t) (read t at l is) (drop l.next t) (got t at l is).is) ∙ present-bind (all_lines (drop l.next t)) (λ ls. read t at l is ∷ ls)

pub returns : goal.returns
unfolding present
returns c =
    let l = c.loop-at in
    let t = c.args.text.now in
    sym (l.invariant ∙ ap (λ bs. present (all_lines bs)) (drop_of_length-le t {i = l.at} (omega arith)) ∙ ap present all_end)
