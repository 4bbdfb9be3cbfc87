use Rattle.std.proofs.Common.{◌+◌, ◌*◌, ap, ◌∙◌, arith, get_or}
use Rattle.protocol.specs.Layout.{width}
use Rattle.protocol.proofs.Reading.{row_inside}
use Rattle.residues.specs.Lists.{spliced}
use Rattle.slices.proofs.Rows.{placed-none, placed_more}
use Rattle.slices.proofs.place_rows.Goals as goal

pub loop-r-init : goal.loop-r-init
loop-r-init c = λ h. placed-none _ _ _ h.1

pub loop-r-preserved : goal.loop-r-preserved
loop-r-preserved c = λ h.
    let g = c.args in
    let l = c.loop-r in
    c.copy_row.ensures (omega (arith, row_inside g.d g.rows l.r (omega arith), h.0), omega (arith, h.1, l.auto.out))
    ∙ ap (spliced (λ k. get_or g.t.now (l.r * g.d + k) 0) (l.r * width) g.d) (l.invariant h)
    ∙ placed_more g.d g.t.now g.out.now l.r (omega arith) (omega arith)
