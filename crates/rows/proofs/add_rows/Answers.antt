use Rattle.std.proofs.Common.{◌+◌, ◌*◌, ◌/◌, get_or, pos, nat_abs, sym, ap, ◌∙◌, refl, add-one, arith, to_z-of_z, w32, SFits, rules}
use Rattle.rows.specs.Rows.{narrowed, start, add_row, add_four, add_rows}
use Rattle.rows.proofs.Rows.{begins_most, four_more}
use Rattle.rows.proofs.add_rows.Goals as goal

pub loop-i-init : goal.loop-i-init
unfolding add_rows
loop-i-init c = refl

pub loop-i-preserved : goal.loop-i-preserved
loop-i-preserved c =
    let a = c.args in
    let l = c.loop-i in
    c.add_block.ensures ∙ ap (add_four a.strands a.d a.f.now (narrowed a.x.now) (4 * l.i)) l.invariant ∙ four_more a.strands a.d a.f.now (narrowed a.x.now) (4 * l.i) a.sums.now
    ∙ ap (λ j. add_rows a.strands a.d a.f.now (narrowed a.x.now) j a.sums.now) {y = 4 * (l.i + 1)} (omega arith)

pub loop-j-init : goal.loop-j-init
loop-j-init c = let a = c.args in c.loop-i.invariant ∙ ap (λ j. add_rows a.strands a.d a.f.now (narrowed a.x.now) j a.sums.now) {y = a.d / 4 * 4} (omega arith)

pub add_row-requires : goal.add_row-requires
add_row-requires c = (omega (arith, begins_most _ _ _ c.row_of.ensures.1, c.requires.residues), omega (arith, c.requires.sums))

pub loop-j-preserved : goal.loop-j-preserved
unfolding add_rows
loop-j-preserved c =
    let a = c.args in
    let l = c.loop-j in
    let n = a.d * a.strands in
    let z = get_or a.f.now l.j (pos 0) in
    let fits : SFits w32 z = search rules in
    let same = to_z-of_z {w = w32} fits in
    c.add_row.ensures
    ∙ (λ i. add_row n ((c.row_of.ensures.0 ∙ ap nat_abs same) i) ((c.row_of.ensures.1 ∙ ap (λ z. start n z (l.j * a.strands)) same) i) (narrowed a.x.now) (l.invariant i))
    ∙ ap (λ j. add_rows a.strands a.d a.f.now (narrowed a.x.now) j a.sums.now) (sym (add-one l.j))
