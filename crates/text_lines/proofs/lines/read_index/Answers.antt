-- The number, and then the space.
use Rattle.std.proofs.Common.{◌≡◌, ℕ, ◌+◌, ◌^◌, ◌<◌, ◌≤◌, true, List, length, drop, ℤ, pos, sym, ap, ◌∙◌, arith, rules}
use mathlib.Core.Option.{none, bind}
use Rattle.protocol.specs.Answers.{as_number}
use Rattle.protocol.specs.Answers.Number.{Value}
use Rattle.text_format.specs.Text.{space, narrow_limit, read_count, plain, byte, read_index, number_answer, read_count_at}
use Rattle.text_format.specs.Lines.{present, read_index_at}
use Rattle.text_lines.proofs.Counts.{Found, suffix_back, counted, uncounted, count_small, answer_both}
use Rattle.text_lines.proofs.Rows.{present-none, byte-place, byte-stands, column_uncounted, column_unspaced, column-read}
use Rattle.text_lines.proofs.Words.{word-pos}
use Rattle.text_lines.proofs.lines.read_index.Goals as goal

-- the number that was read
module _ (text : List ℕ) (at : ℕ) (v : ℤ) (next : ℕ) (is : read_count_at narrow_limit text at ≡ Value v next) where
  got : (n : ℕ) × (v ≡ pos n) × Found (read_count narrow_limit) text at n next
  got = counted narrow_limit text at v next is

  small : got.0 < 2 ^ 63
  unfolding narrow_limit
  small = omega (arith, count_small narrow_limit (drop at text) got.0 (drop next text) got.2.is)

pub returns-in_default : goal.returns-in_default
unfolding read_index_at number_answer plain bind
returns-in_default c =
    let a = c.args in
    let t = a.text.now in
    let missed = uncounted narrow_limit t a.at _ (sym c.read_count.ensures.answer ∙ ap as_number c.in_default.is) in
    let b = answer_both t (plain (read_index (drop a.at t))) _ (sym (ap (λ o. number_answer t (plain o)) (column_uncounted (drop a.at t) missed))) in
    record { answer = b.0; numbers = b.1 }

pub returns-then-not-stands : goal.returns-then-not-stands
unfolding read_index_at number_answer plain bind
returns-then-not-stands c =
    let a = c.args in
    let t = a.text.now in
    let r = c.in-Ok.field-0 in
    let g = got t a.at r.value r.next (sym c.read_count.ensures.answer ∙ ap as_number c.in-Ok.is) in
    let missed : byte space (drop r.next t) ≡ none = present-none _ (search rules) in
    let b = answer_both t (plain (read_index (drop a.at t))) _ (sym (ap (λ o. number_answer t (plain o)) (column_unspaced (drop a.at t) g.0 (drop r.next t) g.2.is missed))) in
    record { answer = b.0; numbers = b.1 }

pub overflow_add-result : goal.overflow_add-result
overflow_add-result c = let r = c.in-Ok.field-0 in record { fits = omega (arith, byte-place space c.args.text.now r.next (search rules), c.well_formed.0.0) }

pub returns : goal.returns
unfolding read_index_at number_answer plain bind
returns c =
    let a = c.args in
    let t = a.text.now in
    let r = c.in-Ok.field-0 in
    let is : read_count_at narrow_limit t a.at ≡ Value r.value r.next = sym c.read_count.ensures.answer ∙ ap as_number c.in-Ok.is in
    let g = got t a.at r.value r.next is in
    let stands : present (byte space (drop r.next t)) ≡ true = search rules in
    let on : r.next + 1 ≤ length t = omega (arith, byte-place space t r.next stands) in
    let b = answer_both t (plain (read_index (drop a.at t))) _
    ((λ j. Value (word-pos r.value g.0 g.1 (small t a.at r.value r.next is) j) (sym (suffix_back t (r.next + 1) on) j))
    ∙ sym (ap (λ o. number_answer t (plain o)) (column-read (drop a.at t) g.0 (drop r.next t) g.2.is (drop (r.next + 1) t) (byte-stands space t r.next stands)))) in
    record { answer = b.0; numbers = b.1 }
