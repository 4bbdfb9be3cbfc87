-- The line, and then its spot.
use Rattle.std.proofs.Common.{◌≡◌, true, false, drop, of_z, to_z, w64, sym, ap, ◌∙◌, arith, rules}
use mir.Facts.{to_z-of_z}
use Rattle.std.proofs.lemmas.Bool.Decides.{nat_tests}
use Rattle.protocol.specs.Answers.{as_entry}
use Rattle.protocol.specs.Answers.Number.{Value}
use Rattle.text_format.specs.Text.{same_spot, number_answer}
use Rattle.text_format.specs.Lines.{spot, read_value}
use Rattle.text_lines.proofs.Counts.{suffix_back, answer_both}
use Rattle.text_lines.proofs.Rows.{line, line_found, line_missed}
use Rattle.text_lines.proofs.Values.{value-unread, value-elsewhere, value_read}
use Rattle.text_lines.proofs.lines.value_at.Goals as goal

pub returns-in_default : goal.returns-in_default
unfolding number_answer
returns-in_default c =
    let a = c.args in
    let t = a.text.now in
    let missed = line_missed t a.at (sym c.read_line.ensures.answer ∙ ap as_entry c.in_default.is) in
    let b = answer_both t (read_value (spot a.part a.item a.place) (drop a.at t)) _ (sym (ap (number_answer t) (value-unread (spot a.part a.item a.place) (drop a.at t) missed))) in
    record { answer = b.0; numbers = b.1 }

pub returns-then-line-part : goal.returns-then-line-part
unfolding number_answer same_spot
returns-then-line-part c =
    let a = c.args in
    let t = a.text.now in
    let l = c.in-Some.line in
    let f = line_found t a.at l.part l.item l.place l.value l.next (sym c.read_line.ensures.answer ∙ ap as_entry c.in-Some.is) in
    let s = spot a.part a.item a.place in
    let other : same_spot (spot l.part l.item l.place) s ≡ false = grind (arith, nat_tests) in
    let b = answer_both t (read_value s (drop a.at t)) _ (sym (ap (number_answer t) (value-elsewhere s (drop a.at t) (line l.part l.item l.place l.value) (drop l.next t) f.is other))) in
    record { answer = b.0; numbers = b.1 }

pub returns : goal.returns
unfolding number_answer same_spot
returns c =
    let a = c.args in
    let t = a.text.now in
    let l = c.in-Some.line in
    let f = line_found t a.at l.part l.item l.place l.value l.next (sym c.read_line.ensures.answer ∙ ap as_entry c.in-Some.is) in
    let s = spot a.part a.item a.place in
    let here : same_spot (spot l.part l.item l.place) s ≡ true = grind (arith, nat_tests) in
    let word : to_z w64 (of_z w64 l.value) ≡ l.value = to_z-of_z {w = w64} {z = l.value} (search rules) in
    let b = answer_both t (read_value s (drop a.at t)) _
    ((λ j. Value (word j) (sym (suffix_back t l.next f.within) j)) ∙ sym (ap (number_answer t) (value_read s (drop a.at t) (line l.part l.item l.place l.value) (drop l.next t) f.is here))) in
    record { answer = b.0; numbers = b.1 }
