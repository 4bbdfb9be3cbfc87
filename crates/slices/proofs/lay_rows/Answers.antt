use Rattle.std.proofs.Common.{ℕ, List, ◌+◌, ◌*◌, ap, sym, ◌∙◌, arith, get_or}
use Rattle.std.proofs.Math.Seq.{get_or-drop}
use Rattle.protocol.specs.Element.{value_row}
use Rattle.protocol.specs.Layout.{width}
use Rattle.protocol.proofs.Reading.{row_inside}
use Rattle.residues.specs.Lists.{spliced}
use Rattle.slices.proofs.Rows.{rows_none, rows_more}
use Rattle.slices.proofs.lay_rows.Goals as goal

abbrev rows_of : List ℕ → ℕ → ℕ → ℕ
rows_of a i k = get_or (value_row a i) k 0

pub loop-r-init : goal.loop-r-init
loop-r-init c = λ h. let g = c.args in rows_none (rows_of g.a.now) g.at g.d g.out.now

pub loop-r-preserved : goal.loop-r-preserved
unfolding value_row
loop-r-preserved c = λ h.
    let g = c.args in
    let l = c.loop-r in
    let inside = row_inside g.d g.rows l.r (omega arith) in
    c.copy_row.ensures (omega (arith, h.0), omega (arith, h.1, l.auto.out, inside))
    ∙ ap (spliced (λ k. get_or g.a.now (l.r * width + k) 0) (g.at + l.r * g.d) g.d) (l.invariant h)
    ∙ rows_more (rows_of g.a.now) g.at g.d g.out.now l.r (omega (arith, h.1, inside)) (λ k _. sym (get_or-drop (l.r * width) g.a.now k 0))
