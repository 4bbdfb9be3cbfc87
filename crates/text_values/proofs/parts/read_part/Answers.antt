-- The line that is wanted next is there with its value, or one is missing.
use Rattle.std.proofs.Common.{◌≡◌, ℕ, ◌+◌, ◌<◌, ◌≤◌, List, ◌∷◌, length, drop, take, ℤ, of_z, to_z, w64, sym, ap, subst, ◌∙◌, arith, rules, add-one}
use mathlib.Core.Option.{Option, none, some}
use lib.ListN.{set}
use lib.Seq.{take-suc-set}
use mir.Facts.{to_z-of_z}
use Rattle.protocol.specs.Answers.{as_number}
use Rattle.text_format.specs.Text.{Shape, shape_size, spot_at, spots}
use Rattle.text_format.specs.Lines.{spot, read_value, read_values}
use Rattle.text_parts.specs.declared.Cell.{Cell}
use Rattle.text_parts.specs.Parts.{as_shape, cell_at}
use Rattle.text_parts.proofs.Cells.{cell_first, cell-inside, next-cell, spots-count, spots_next, spots-end}
use Rattle.text_lines.proofs.Counts.{Found}
use Rattle.text_lines.proofs.Values.{prefix, prefix-nothing, valued, unvalued, values_more, values-over, values-done}
use Rattle.text_values.proofs.Cells.{took-missed, took-done}
use Rattle.text_values.proofs.parts.read_part.Goals as goal

module _ (text : List ℕ) (from : ℕ) (b : Shape) where
  abbrev all_of : Option (List ℤ × List ℕ)
  all_of = read_values (spots b) (drop from text)

  abbrev Left : List ℤ → ℕ → ℕ → Type 0
  Left values at p = all_of ≡ prefix (take p values) (read_values (drop p (spots b)) (drop at text))

  -- one line more
  module _ (values : List ℤ) (at p : ℕ) (h : p < shape_size b) (left : Left values at p) where
    here : all_of ≡ prefix (take p values) (read_values (spot_at b p ∷ drop (p + 1) (spots b)) (drop at text))
    here = left ∙ ap (λ ss. prefix (take p values) (read_values ss (drop at text))) (spots_next b p h)

    step : (v : ℤ) (next : ℕ) → p < length values → Found (read_value (spot_at b p)) text at v next → Left (set values p v) next (p + 1)
    step v next l f =
        values_more all_of (take p values) (spot_at b p) (drop (p + 1) (spots b)) (drop at text) v (drop next text) here f.is
        ∙ ap (λ ws. prefix ws (read_values (drop (p + 1) (spots b)) (drop next text))) (sym (ap (λ n. take n (set values p v)) (add-one p) ∙ take-suc-set values p v l))

    stop : read_value (spot_at b p) (drop at text) ≡ none → all_of ≡ none
    stop e = values-over all_of (take p values) (spot_at b p) (drop (p + 1) (spots b)) (drop at text) here e

  done : (values : List ℤ) (at p : ℕ) → shape_size b ≤ p → Left values at p → all_of ≡ some (take p values, drop at text)
  done values at p h left =
      values-done all_of (take p values) (drop at text) (left ∙ ap (λ ss. prefix (take p values) (read_values ss (drop at text))) (spots-end b p h))

-- the spot of a line
wanted : (b : Shape) (c : Cell) (p : ℕ) → c ≡ cell_at b.places p → spot b.part c.item c.place ≡ spot_at b p
unfolding cell_at spot_at
wanted b c p e = λ j. spot b.part (e j).item (e j).place

pub loop-p-init : goal.loop-p-init
loop-p-init c = record { within = λ h. h; cell_is = sym (cell_first _); left = sym (prefix-nothing _) }

pub returns-in_default : goal.returns-in_default
returns-in_default c _ =
    let a = c.args in
    let t = a.text.now in
    let l = c.loop-p in
    let b = as_shape a.shape in
    let none_here = unvalued t _ l.at _ (sym c.value_at.ensures.answer ∙ ap as_number c.in_default.is) in
    took-missed t a.from (spots b) l.values
    (stop t a.from b l.values l.at l.p (omega arith) l.invariant.left (subst (λ s. read_value s (drop l.at t) ≡ none) (wanted b l.cell l.p l.invariant.cell_is) none_here))

pub loop-p-preserved : goal.loop-p-preserved
loop-p-preserved c =
    let a = c.args in
    let t = a.text.now in
    let l = c.loop-p in
    let r = c.in-Ok.field-0 in
    let b = as_shape a.shape in
    let got = subst (λ s. Found (read_value s) t l.at r.value r.next) (wanted b l.cell l.p l.invariant.cell_is) (valued t _ l.at r.value r.next (sym c.value_at.ensures.answer ∙ ap as_number c.in-Ok.is)) in
    let word : to_z w64 (of_z w64 r.value) ≡ r.value = to_z-of_z {w = w64} {z = r.value} (search rules) in
    let within = cell-inside b l.p (omega arith) l.cell (search rules) l.invariant.cell_is in
    record {
      within = λ _. got.within;
      cell_is = c.next-cell.ensures ∙ next-cell _ _ within.0 within.1 l.p l.invariant.cell_is;
      left = subst (λ w. Left t a.from b (set l.values l.p w) r.next (l.p + 1)) (sym word)
          (step t a.from b l.values l.at l.p (omega arith) l.invariant.left r.value r.next (omega arith) got);
    }

pub returns : goal.returns
returns c h =
    let a = c.args in
    let l = c.loop-p in
    let b = as_shape a.shape in
    took-done a.text.now a.from (spots b) l.values l.p l.at (omega (arith, spots-count b)) (l.invariant.within h)
    (done a.text.now a.from b l.values l.at l.p (omega arith) l.invariant.left)
