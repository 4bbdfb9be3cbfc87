-- Three columns, a number and a line feed.
use Rattle.std.proofs.Common.{◌≡◌, ℕ, ◌+◌, ◌≤◌, true, List, length, drop, ℤ, of_z, to_z, w64, sym, ap, ◌∙◌, arith, rules}
use mathlib.Core.Option.{none}
use mir.Facts.{to_z-of_z}
use Rattle.protocol.specs.Answers.{Number, as_number}
use Rattle.protocol.specs.Answers.Number.{Value}
use Rattle.protocol.specs.Answers.Entry.{Found as Line-at}
use Rattle.text_format.specs.Text.{line_feed, limit_of, read_number_at, byte}
use Rattle.text_format.specs.Lines.{present, line_answer, read_line_at, read_index_at}
use Rattle.text_lines.proofs.Counts.{suffix_back, numbered, unnumbered}
use Rattle.text_lines.proofs.Rows.{bind-some, bind-none, present-none, byte-place, byte-stands, columned, uncolumned, line-columns, line_both, line₁, line₂, line₃, line₄}
use Rattle.text_lines.proofs.Words.{narrow-cast}
use Rattle.text_lines.proofs.Parted.{Column, small, narrowed, left₁, left₂, left₃, left₄}
use Rattle.text_lines.proofs.lines.read_line.Goals as goal

column : (text : List ℕ) (at : ℕ) (v : ℤ) (next : ℕ) → read_index_at text at ≡ Value v next → Column text at v next
column text at v next e = let (n, is, f) = columned text at v next e in record { number = n; value_is = is; found = f }

-- the limit of the part as the code has it
value-at : (text : List ℕ) (on n m : ℕ) (r : Number) → n ≡ m → r ≡ read_number_at (limit_of n) text on → read_number_at (limit_of m) text on ≡ r
value-at text on n m r same e = ap (λ p. read_number_at (limit_of p) text on) (sym same) ∙ sym e

pub returns-in_default : goal.returns-in_default
unfolding read_line_at line_answer
returns-in_default c =
    let a = c.args in
    let t = a.text.now in
    let missed = uncolumned t a.at _ (sym c.read_index.ensures.answer ∙ ap as_number c.in_default.is) in
    let b = line_both t a.at _ (sym (ap (line_answer t) (line-columns (drop a.at t) ∙ bind-none _ line₁ missed))) in
    record { answer = b.0; numbers = b.1 }

pub returns-in_default-read_index : goal.returns-in_default-read_index
unfolding read_line_at line_answer line₁
returns-in_default-read_index c =
    let a = c.args in
    let t = a.text.now in
    let r₁ = c.in-Ok.field-0 in
    let c₁ = column t a.at r₁.value r₁.next (sym c.read_index.ensures.answer ∙ ap as_number c.in-Ok.is) in
    let missed = uncolumned t r₁.next _ (sym c.read_index-2.ensures.answer ∙ ap as_number c.in_default-read_index.is) in
    let b = line_both t a.at _ (sym (ap (line_answer t) (left₁ t a.at c₁.number r₁.next c₁.found ∙ bind-none _ (line₂ c₁.number) missed))) in
    record { answer = b.0; numbers = b.1 }

pub returns-in_default-read_index-2 : goal.returns-in_default-read_index-2
unfolding read_line_at line_answer line₂
returns-in_default-read_index-2 c =
    let a = c.args in
    let t = a.text.now in
    let r₁ = c.in-Ok.field-0 in
    let r₂ = c.in-Ok-read_index.field-0 in
    let c₁ = column t a.at r₁.value r₁.next (sym c.read_index.ensures.answer ∙ ap as_number c.in-Ok.is) in
    let c₂ = column t r₁.next r₂.value r₂.next (sym c.read_index-2.ensures.answer ∙ ap as_number c.in-Ok-read_index.is) in
    let missed = uncolumned t r₂.next _ (sym c.read_index-3.ensures.answer ∙ ap as_number c.in_default-read_index-2.is) in
    let b = line_both t a.at _ (sym (ap (line_answer t) (left₂ t a.at c₁.number r₁.next c₁.found c₂.number r₂.next c₂.found ∙ bind-none _ (line₃ c₁.number c₂.number) missed))) in
    record { answer = b.0; numbers = b.1 }

pub overflow_cast-part : goal.overflow_cast-part
overflow_cast-part c =
    let a = c.args in
    let r₁ = c.in-Ok.field-0 in
    let c₁ = column a.text.now a.at r₁.value r₁.next (sym c.read_index.ensures.answer ∙ ap as_number c.in-Ok.is) in
    narrow-cast _ c₁.number c₁.value_is (small _ _ _ _ c₁)

pub returns-in_default-value_of : goal.returns-in_default-value_of
unfolding read_line_at line_answer line₃
returns-in_default-value_of c =
    let a = c.args in
    let t = a.text.now in
    let r₁ = c.in-Ok.field-0 in
    let r₂ = c.in-Ok-read_index.field-0 in
    let r₃ = c.in-Ok-read_index-2.field-0 in
    let c₁ = column t a.at r₁.value r₁.next (sym c.read_index.ensures.answer ∙ ap as_number c.in-Ok.is) in
    let c₂ = column t r₁.next r₂.value r₂.next (sym c.read_index-2.ensures.answer ∙ ap as_number c.in-Ok-read_index.is) in
    let c₃ = column t r₂.next r₃.value r₃.next (sym c.read_index-3.ensures.answer ∙ ap as_number c.in-Ok-read_index-2.is) in
    let missed = unnumbered _ t r₃.next _ (value-at t r₃.next _ c₁.number _ (narrowed t a.at r₁.value r₁.next c₁) c.value_of.ensures ∙ ap as_number c.in_default-value_of.is) in
    let b = line_both t a.at _ (sym (ap (line_answer t)
    (left₃ t a.at c₁.number r₁.next c₁.found c₂.number r₂.next c₂.found c₃.number r₃.next c₃.found ∙ bind-none _ (line₄ c₁.number c₂.number c₃.number) missed))) in
    record { answer = b.0; numbers = b.1 }

pub returns-then-not-stands : goal.returns-then-not-stands
unfolding read_line_at line_answer line₄
returns-then-not-stands c =
    let a = c.args in
    let t = a.text.now in
    let r₁ = c.in-Ok.field-0 in
    let r₂ = c.in-Ok-read_index.field-0 in
    let r₃ = c.in-Ok-read_index-2.field-0 in
    let r₄ = c.in-Ok-value_of.field-0 in
    let c₁ = column t a.at r₁.value r₁.next (sym c.read_index.ensures.answer ∙ ap as_number c.in-Ok.is) in
    let c₂ = column t r₁.next r₂.value r₂.next (sym c.read_index-2.ensures.answer ∙ ap as_number c.in-Ok-read_index.is) in
    let c₃ = column t r₂.next r₃.value r₃.next (sym c.read_index-3.ensures.answer ∙ ap as_number c.in-Ok-read_index-2.is) in
    let f₄ = numbered _ t r₃.next r₄.value r₄.next (value-at t r₃.next _ c₁.number _ (narrowed t a.at r₁.value r₁.next c₁) c.value_of.ensures ∙ ap as_number c.in-Ok-value_of.is) in
    let missed : byte line_feed (drop r₄.next t) ≡ none = present-none _ (search rules) in
    let b = line_both t a.at _ (sym (ap (line_answer t)
    (left₄ t a.at c₁.number r₁.next c₁.found c₂.number r₂.next c₂.found c₃.number r₃.next c₃.found r₄.value r₄.next f₄ ∙ bind-none _ _ missed))) in
    record { answer = b.0; numbers = b.1 }

pub overflow_cast-result : goal.overflow_cast-result
overflow_cast-result c =
    let r₁ = c.in-Ok.field-0 in
    let r₂ = c.in-Ok-read_index.field-0 in
    let c₂ = column c.args.text.now r₁.next r₂.value r₂.next (sym c.read_index-2.ensures.answer ∙ ap as_number c.in-Ok-read_index.is) in
    narrow-cast _ c₂.number c₂.value_is (small _ _ _ _ c₂)

pub overflow_cast-result-2 : goal.overflow_cast-result-2
overflow_cast-result-2 c =
    let r₂ = c.in-Ok-read_index.field-0 in
    let r₃ = c.in-Ok-read_index-2.field-0 in
    let c₃ = column c.args.text.now r₂.next r₃.value r₃.next (sym c.read_index-3.ensures.answer ∙ ap as_number c.in-Ok-read_index-2.is) in
    narrow-cast _ c₃.number c₃.value_is (small _ _ _ _ c₃)

pub overflow_add-result : goal.overflow_add-result
overflow_add-result c = record { fits = omega (arith, byte-place line_feed c.args.text.now c.in-Ok-value_of.field-0.next (search rules), c.well_formed.0.0) }

pub returns : goal.returns
unfolding read_line_at line_answer line₄
returns c =
    let a = c.args in
    let t = a.text.now in
    let r₁ = c.in-Ok.field-0 in
    let r₂ = c.in-Ok-read_index.field-0 in
    let r₃ = c.in-Ok-read_index-2.field-0 in
    let r₄ = c.in-Ok-value_of.field-0 in
    let c₁ = column t a.at r₁.value r₁.next (sym c.read_index.ensures.answer ∙ ap as_number c.in-Ok.is) in
    let c₂ = column t r₁.next r₂.value r₂.next (sym c.read_index-2.ensures.answer ∙ ap as_number c.in-Ok-read_index.is) in
    let c₃ = column t r₂.next r₃.value r₃.next (sym c.read_index-3.ensures.answer ∙ ap as_number c.in-Ok-read_index-2.is) in
    let f₄ = numbered _ t r₃.next r₄.value r₄.next (value-at t r₃.next _ c₁.number _ (narrowed t a.at r₁.value r₁.next c₁) c.value_of.ensures ∙ ap as_number c.in-Ok-value_of.is) in
    let stands : present (byte line_feed (drop r₄.next t)) ≡ true = search rules in
    let on : r₄.next + 1 ≤ length t = omega (arith, byte-place line_feed t r₄.next stands) in
    let word : to_z w64 (of_z w64 r₄.value) ≡ r₄.value = to_z-of_z {w = w64} {z = r₄.value} (search rules) in
    let b = line_both t a.at _
    ((λ j. Line-at (narrowed t a.at r₁.value r₁.next c₁ j) (narrowed t r₁.next r₂.value r₂.next c₂ j) (narrowed t r₂.next r₃.value r₃.next c₃ j) (word j) (sym (suffix_back t (r₄.next + 1) on) j))
    ∙ sym (ap (line_answer t) (left₄ t a.at c₁.number r₁.next c₁.found c₂.number r₂.next c₂.found c₃.number r₃.next c₃.found r₄.value r₄.next f₄
    ∙ bind-some _ (drop (r₄.next + 1) t) _ (byte-stands line_feed t r₄.next stands)))) in
    record { answer = b.0; numbers = b.1 }
