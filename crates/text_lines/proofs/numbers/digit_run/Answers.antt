-- A digit stands at the place that is read.
use Rattle.std.proofs.Common.{◌≡◌, ℕ, ◌+◌, ◌-◌, ◌*◌, ◌<◌, ◌≤◌, min, true, false, List, length, get_or, drop, sym, ap, ◌∙◌, arith, rules, length-drop}
use Rattle.text_format.specs.Text.{digit_first, digit_run}
use Rattle.text_lines.specs.declared.numbers.Run.{Run}
use Rattle.text_lines.specs.Digits.{past_limit, kept_run, run_answer}
use Rattle.text_format.proofs.NumeralLaws.{digit-bounds}
use Rattle.text_lines.proofs.Runs.{first_place, first_digit, kept, kept_same, run-digit, run_end}
use Rattle.text_lines.proofs.numbers.digit_run.Goals as goal

module _ (bytes : List ℕ) (place : ℕ) (first : digit_first (drop place bytes) ≡ true) where
  inside : place < length bytes
  inside = first_place bytes place first

  low : 48 ≤ get_or bytes place 0
  low = (digit-bounds _ (first_digit bytes place first)).0

-- an answer by what is kept of a run
abbrev answer : List ℕ → ℕ × List ℕ → Run
answer text r = record { value = r.0; next = length text - length r.1 }

whole : (text : List ℕ) (at value next : ℕ) → (next ≤ length text) × (kept (digit_run 0 (drop at text)) ≡ kept (digit_run value (drop next text))) → digit_first (drop next text) ≡ false
    → kept_run (record { value = value; next = next }) ≡ run_answer text (digit_run 0 (drop at text))
unfolding kept_run run_answer
whole text at value next inv none =
    sym (ap (answer text) (inv.1 ∙ ap kept (run_end text next value none)) ∙ (λ j. record { value = min value past_limit; next = place j }))
  where
    place : length text - length (drop next text) ≡ next
    place = omega (arith, length-drop next text, inv.0)

pub bounds-text-at : goal.bounds-text-at
bounds-text-at c = inside c.args.text.now c.args.at c.requires

pub overflow_sub-text : goal.overflow_sub-text
overflow_sub-text c = low c.args.text.now c.args.at c.requires

pub overflow_add-next : goal.overflow_add-next
overflow_add-next c = record { fits = omega (arith, inside c.args.text.now c.args.at c.requires) }

pub loop-value-init : goal.loop-value-init
loop-value-init c =
    let a = c.args in (
      omega (arith, inside a.text.now a.at c.requires),
      ap kept (run-digit a.text.now a.at 0 c.requires ∙ ap (λ n. digit_run n (drop (a.at + 1) a.text.now)) (omega arith)),
    )

pub bounds-text-next : goal.bounds-text-next
bounds-text-next c = inside c.args.text.now c.loop-value.next (search rules)

pub overflow_sub-text-in-loop-value : goal.overflow_sub-text-in-loop-value
overflow_sub-text-in-loop-value c = low c.args.text.now c.loop-value.next (search rules)

pub loop-value-smaller : goal.loop-value-smaller
loop-value-smaller c = let h = inside c.args.text.now c.loop-value.next (search rules) in omega arith

pub loop-value-preserved : goal.loop-value-preserved
loop-value-preserved c =
    let l = c.loop-value in
    let t = c.args.text.now in
    let first : digit_first (drop l.next t) ≡ true = search rules in (
      omega (arith, inside t l.next first),
      l.invariant.1 ∙ ap kept (run-digit t l.next l.value first) ∙ kept_same (l.value * 10 + (get_or t l.next 0 - 48)) c.with_digit-value.result (drop (l.next + 1) t) (sym c.with_digit-value.ensures),
    )

pub returns : goal.returns
returns c = let l = c.loop-value in whole c.args.text.now c.args.at l.value l.next l.invariant (search rules)
