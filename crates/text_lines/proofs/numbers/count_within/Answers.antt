-- What is kept of the run's number decides whether it is too large.
use Rattle.std.proofs.Common.{◌≡◌, ℕ, ◌-◌, ◌<◌, ◌≤◌, min, List, length, drop, pos, sym, ap, ◌∙◌, arith, rules}
use mathlib.Core.Option.{bind}
use mir.Syntax.{w64}
use mir.Facts.{to_z_pos}
use Rattle.protocol.specs.Answers.Number.{Value}
use Rattle.text_format.specs.Text.{value_limit, digit_run, plain, number_answer, read_count_at}
use Rattle.text_lines.specs.declared.numbers.Run.{Run}
use Rattle.text_lines.specs.Digits.{past_limit, kept_run, run_answer}
use Rattle.text_format.proofs.NumeralLaws.{proper_first}
use Rattle.text_lines.proofs.Counts.{count_improper, count_large, count-read, count_both}
use Rattle.text_lines.proofs.numbers.count_within.Goals as goal

module _ (text : List ℕ) (at most : ℕ) (h : most ≤ value_limit) (run : Run) (e : kept_run run ≡ run_answer text (digit_run 0 (drop at text))) where
  few : most < past_limit
  unfolding value_limit
  few = omega (arith, h)

  kept : min run.value past_limit ≡ min (digit_run 0 (drop at text)).0 past_limit
  unfolding kept_run run_answer
  kept = ap (λ r. r.value) e

  behind : run.next ≡ length text - length (digit_run 0 (drop at text)).1
  unfolding kept_run run_answer
  behind = ap (λ r. r.next) e

  large : most < run.value → most < (digit_run 0 (drop at text)).0
  large l = omega (arith, kept, few)

  small : run.value ≤ most → run.value ≡ (digit_run 0 (drop at text)).0
  small l = omega (arith, kept, few)

pub returns-then-not-proper_digits : goal.returns-then-not-proper_digits
unfolding read_count_at number_answer plain bind
returns-then-not-proper_digits c =
    let a = c.args in
    let b = count_both a.most a.text.now a.at _ (sym (ap (λ o. number_answer a.text.now (plain o)) (count_improper a.most (drop a.at a.text.now) (search rules)))) in
    record { answer = b.0; numbers = b.1 }

pub digit_run-run-requires : goal.digit_run-run-requires
digit_run-run-requires c = proper_first _ (search rules)

pub returns-then-run-most : goal.returns-then-run-most
unfolding read_count_at number_answer plain bind
returns-then-run-most c =
    let a = c.args in
    let over = large a.text.now a.at a.most c.requires c.digit_run-run.result c.digit_run-run.ensures (omega arith) in
    let b = count_both a.most a.text.now a.at _ (sym (ap (λ o. number_answer a.text.now (plain o)) (count_large a.most (drop a.at a.text.now) (search rules) over))) in
    record { answer = b.0; numbers = b.1 }

pub overflow_cast-result : goal.overflow_cast-result
unfolding value_limit
overflow_cast-result c = record { sfits = omega (arith, c.requires) }

pub returns : goal.returns
unfolding read_count_at number_answer plain bind
returns c =
    let a = c.args in
    let run = c.digit_run-run.result in
    let exact = small a.text.now a.at a.most c.requires run c.digit_run-run.ensures (omega arith) in
    let short = few a.text.now a.at a.most c.requires run c.digit_run-run.ensures in
    let kept : (digit_run 0 (drop a.at a.text.now)).0 ≤ a.most = omega (arith, exact) in
    let b = count_both a.most a.text.now a.at _
    ((λ j. Value (to_z_pos w64 {n = run.value} (omega (arith, short)) j) (behind a.text.now a.at a.most c.requires run c.digit_run-run.ensures j))
    ∙ (λ j. Value (pos (exact j)) (length a.text.now - length (digit_run 0 (drop a.at a.text.now)).1))
    ∙ sym (ap (λ o. number_answer a.text.now (plain o)) (count-read a.most (drop a.at a.text.now) (search rules) kept))) in
    record { answer = b.0; numbers = b.1 }
