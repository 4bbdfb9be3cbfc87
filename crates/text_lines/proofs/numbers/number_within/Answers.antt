-- By the first byte.
use Rattle.std.proofs.Common.{◌≡◌, ℕ, zero, suc, ◌+◌, ◌^◌, ◌<◌, ◌≤◌, List, drop, ℤ, pos, neg_ℤ, ◌-ℤ◌, SFits, of_z, to_z, w64, sym, ap, subst, ◌∙◌, arith}
use lib.IntN.{+ℤ_idl}
use mir.ValLaws.{to_z-of_z}
use mir.Facts.{to_z_pos}
use Rattle.protocol.specs.Answers.{as_number}
use Rattle.protocol.specs.Answers.Number.{Value}
use Rattle.text_format.specs.Text.{value_limit, read_count, number_answer, read_number_at, read_count_at}
use Rattle.text_lines.proofs.Counts.{Found, suffix_back, counted, uncounted, count_small, number-outside, number-plain, number-minus, negative-number, negative-zero, negative-none, number_both}
use Rattle.text_lines.proofs.numbers.number_within.Goals as goal

-- a number that was read without its sign keeps its place when the sign is put in front
neg-fits : (n : ℕ) → n < 2 ^ 63 → SFits w64 (neg_ℤ (pos n))
neg-fits zero h = record { sfits = omega arith }
neg-fits (suc n) h = record { sfits = omega arith }

neg_is : (v : ℤ) (n : ℕ) → v ≡ pos n → n < 2 ^ 63 → pos 0 -ℤ to_z w64 (of_z w64 v) ≡ neg_ℤ (pos n)
neg_is v n e h = ap (λ z. pos 0 -ℤ to_z w64 (of_z w64 z)) e ∙ ap (λ z. pos 0 -ℤ z) (to_z_pos w64 {n = n} (omega arith)) ∙ +ℤ_idl (neg_ℤ (pos n))

-- behind a minus: the number without its sign
module _ (text : List ℕ) (at most : ℕ) (few : most ≤ value_limit) (v : ℤ) (next : ℕ) (is : read_count_at most text (at + 1) ≡ Value v next) where
  got : (n : ℕ) × (v ≡ pos n) × Found (read_count most) text (at + 1) n next
  got = counted most text (at + 1) v next is

  small : got.0 < 2 ^ 63
  unfolding value_limit
  small = omega (arith, count_small most (drop (at + 1) text) got.0 (drop next text) got.2.is, few)

pub returns-then-at-text : goal.returns-then-at-text
unfolding read_number_at number_answer
returns-then-at-text c =
    let a = c.args in
    let b = number_both a.most a.text.now a.at _ (sym (ap (number_answer a.text.now) (number-outside a.most a.text.now a.at (omega arith)))) in
    record { answer = b.0; numbers = b.1 }

pub returns-then-text-at-ne45 : goal.returns-then-text-at-ne45
unfolding read_number_at read_count_at
returns-then-text-at-ne45 c =
    let a = c.args in
    let b = number_both a.most a.text.now a.at _
    (c.count_within.ensures.answer ∙ sym (ap (number_answer a.text.now) (number-plain a.most a.text.now a.at (omega arith) c.if-text-at-ne45.true))) in
    record { answer = b.0; numbers = b.1 }

pub returns-in_default : goal.returns-in_default
unfolding read_number_at number_answer
returns-in_default c =
    let a = c.args in
    let none-behind = uncounted a.most a.text.now (a.at + 1) _ (sym c.count_within-2.ensures.answer ∙ ap as_number c.in_default.is) in
    let b = number_both a.most a.text.now a.at _ (sym (ap (number_answer a.text.now) (number-minus a.most a.text.now a.at (omega arith) c.if-text-at-ne45.false ∙ negative-none _ none-behind))) in
    record { answer = b.0; numbers = b.1 }

pub returns-then-value-eq0 : goal.returns-then-value-eq0
unfolding read_number_at number_answer
returns-then-value-eq0 c =
    let a = c.args in
    let t = a.text.now in
    let r = c.in-Ok.field-0 in
    let g = got t a.at a.most c.requires r.value r.next (sym c.count_within-2.ensures.answer ∙ ap as_number c.in-Ok.is) in
    let b = number_both a.most t a.at _
    (sym (ap (number_answer t) (number-minus a.most t a.at (omega arith) c.if-text-at-ne45.false ∙ negative-zero _ g.0 (drop r.next t) g.2.is (sym (ap (of_z w64) g.1) ∙ c.if-value-eq0.true)))) in
    record { answer = b.0; numbers = b.1 }

pub overflow_sub-result : goal.overflow_sub-result
overflow_sub-result c =
    let a = c.args in
    let r = c.in-Ok.field-0 in
    let is : read_count_at a.most a.text.now (a.at + 1) ≡ Value r.value r.next = sym c.count_within-2.ensures.answer ∙ ap as_number c.in-Ok.is in
    let g = got a.text.now a.at a.most c.requires r.value r.next is in
    let few = small a.text.now a.at a.most c.requires r.value r.next is in
    subst (SFits w64) (sym (neg_is r.value g.0 g.1 few)) (neg-fits g.0 few)

pub returns : goal.returns
unfolding read_number_at number_answer
returns c =
    let a = c.args in
    let t = a.text.now in
    let r = c.in-Ok.field-0 in
    let is : read_count_at a.most t (a.at + 1) ≡ Value r.value r.next = sym c.count_within-2.ensures.answer ∙ ap as_number c.in-Ok.is in
    let g = got t a.at a.most c.requires r.value r.next is in
    let few = small t a.at a.most c.requires r.value r.next is in
    let whole : to_z w64 (of_z w64 (pos 0 -ℤ to_z w64 (of_z w64 r.value))) ≡ neg_ℤ (pos g.0) =
    ap (λ z. to_z w64 (of_z w64 z)) (neg_is r.value g.0 g.1 few) ∙ to_z-of_z w64 (neg_ℤ (pos g.0)) (neg-fits g.0 few) in
    let nonzero : g.0 ≡ 0 → ⊥ = λ e. c.if-value-eq0.false (ap (of_z w64) g.1 ∙ e) in
    let b = number_both a.most t a.at _
    ((λ j. Value (whole j) (sym (suffix_back t r.next g.2.within) j))
    ∙ sym (ap (number_answer t) (number-minus a.most t a.at (omega arith) c.if-text-at-ne45.false ∙ negative-number _ g.0 (drop r.next t) g.2.is nonzero))) in
    record { answer = b.0; numbers = b.1 }
