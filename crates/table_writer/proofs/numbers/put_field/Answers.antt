-- One digit more goes before those that are stored.
use Rattle.std.proofs.Common.{◌/◌, ◌≡◌, ◌<◌, ◌+◌, ◌-◌, ◌++◌, length, take, drop, ap, ◌∙◌, arith, rules, length-set}
use Rattle.std.proofs.lemmas.List.{take-set-le}
use Rattle.text_format.specs.Text.{low_digits}
use Rattle.table_writer.proofs.Digits.{digits_most, digit-step, digits_none, digits_done}
use Rattle.table_writer.proofs.numbers.put_field.Goals as goal

pub overflow_add-end : goal.overflow_add-end
overflow_add-end g c = record { fits = omega (arith, c.requires, digits_most c.args.n, g.N.fits) }

pub overflow_add-end-2 : goal.overflow_add-end-2
overflow_add-end-2 g c = record { fits = omega (arith, c.requires, digits_most c.args.n, g.N.fits) }

pub grow-requires : goal.grow-requires
grow-requires g c = (search rules, omega (arith, c.requires, digits_most c.args.n))

pub loop-k-init : goal.loop-k-init
loop-k-init g c =
    let start = c.len-start.result in
    let count = c.digit_count.result in
    let grown = c.grow.new.self in
    let long : length grown ≡ start + count + 1 = omega (arith, c.grow.ensures.len) in (
      omega arith,
      ap length c.set.ensures ∙ length-set grown (start + count) _ ∙ omega arith,
      ap (take start) c.set.ensures ∙ take-set-le start grown (start + count) _ (omega arith) ∙ ap (λ k. take k grown) c.len-start.ensures ∙ c.grow.ensures.front,
      ap (λ t. low_digits (start + count - start) c.args.n ++ drop (start + count) t) c.set.ensures ∙ digits_none start count c.args.n c.args.behind grown c.digit_count.ensures long,
    )

pub loop-k-preserved : goal.loop-k-preserved
loop-k-preserved g c =
    let l = c.loop-k in
    let start = c.len-start.result in
    let j = l.k - 1 in
    let inside : j < length l.text = omega arith in (
      omega arith,
      ap length c.set-in-loop-k.ensures ∙ length-set l.text j _ ∙ l.invariant.1,
      ap (take start) c.set-in-loop-k.ensures ∙ take-set-le start l.text j _ (omega arith) ∙ l.invariant.2,
      ap (λ t. low_digits (j - start) (l.rest / 10) ++ drop j t) c.set-in-loop-k.ensures
          ∙ digit-step start j l.rest l.text (omega arith) inside
          ∙ ap (λ k. low_digits (k - start) l.rest ++ drop k l.text) {x = j + 1} {y = l.k} (omega arith)
          ∙ l.invariant.3,
    )

pub returns : goal.returns
returns g c =
    let l = c.loop-k in
    digits_done c.len-start.result l.k l.rest c.args.n c.args.behind c.args.text.now l.text (omega arith) l.invariant.2 l.invariant.3
