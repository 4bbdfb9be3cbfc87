-- The table at place k ends among the values, and its values are tested.
use Rattle.std.proofs.Common.{◌≡◌, ℕ, ◌+◌, ◌-◌, ◌≤◌, List, length, get_or, take, drop, ℤ, refl, sym, ap, ◌∙◌, arith, rules}
use Rattle.protocol.specs.Refusal.{number}
use Rattle.ranges.proofs.Scan.{every-none, every_goes_on, every_fails, every_ends}
use Rattle.text_parts.specs.Parts.{table_count}
use Rattle.text_parts.specs.Flat.{start, piece}
use Rattle.text_parts.proofs.Flat.{start_next, start_most, part_of_holds}
use Rattle.table_reader.specs.Cut.{passes, all_pass}
use Rattle.table_reader.proofs.entries.all_pass.Goals as goal

pub loop-k-init : goal.loop-k-init
unfolding start
loop-k-init c = record { start_is = refl; passed = λ _. every-none _ }

pub overflow_add-end : goal.overflow_add-end
overflow_add-end c = let l = c.loop-k in record { fits = omega (arith, start_most c.args.lengths l.k (omega arith), c.requires, l.invariant.start_is) }

pub offset_bounds-values-start : goal.offset_bounds-values-start
offset_bounds-values-start c =
    let l = c.loop-k in
    let inside : l.start + get_or c.args.lengths l.k 0 ≤ length c.args.values.now = omega (arith, start_most c.args.lengths l.k (omega arith), c.requires, l.invariant.start_is) in
    search rules

pub slice_bounds-pass-end : goal.slice_bounds-pass-end
slice_bounds-pass-end c = let l = c.loop-k in omega (arith, start_most c.args.lengths l.k (omega arith), c.requires, l.invariant.start_is)

-- the values that are tested are those of the table at place k
values_of : (n : List ℕ) (k from : ℕ) (vs : List ℤ) → from ≡ start n k → take (from + get_or n k 0 - from) (drop from vs) ≡ piece n k vs
values_of n k from vs e = let m = get_or n k 0 in part_of_holds vs from (from + m) m refl ∙ ap (λ s. take m (drop s vs)) e

pub returns-then-not-pass : goal.returns-then-not-pass
unfolding all_pass
returns-then-not-pass c ok =
    let a = c.args in
    let l = c.loop-k in
    every_fails _ table_count l.k (omega arith) (sym (c.pass.ensures ok ∙ ap (passes a.settings (number a.refusal) l.k) (values_of a.lengths l.k l.start a.values.now l.invariant.start_is)) ∙ c.if-not-pass.true)

pub loop-k-preserved : goal.loop-k-preserved
loop-k-preserved c =
    let a = c.args in
    let l = c.loop-k in
    record {
      start_is = ap (λ s. s + get_or a.lengths l.k 0) l.invariant.start_is ∙ sym (start_next a.lengths l.k);
      passed = λ ok.
          every_goes_on _ _ (l.invariant.passed ok)
          (sym (c.pass.ensures ok ∙ ap (passes a.settings (number a.refusal) l.k) (values_of a.lengths l.k l.start a.values.now l.invariant.start_is)) ∙ c.if-not-pass.false);
    }

pub returns : goal.returns
unfolding all_pass
returns c ok = every_ends _ table_count _ (c.loop-k.invariant.passed ok) (omega arith)
