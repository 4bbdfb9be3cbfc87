use Rattle.std.proofs.Common.{◌≡◌, ◌∙◌, ◌*◌, ap, arith, get_or}
use Rattle.protocol.specs.Element.{width}
use Rattle.residues.specs.Lists.{spliced}
use Rattle.equations.proofs.Ready.{ready}
use Rattle.row_equations.proofs.RowByRow.{first_rows, rows_none, rows_all, rows_more}
use Rattle.row_equations.proofs.next_rows.Invariants.{claim}
use Rattle.row_equations.proofs.next_rows.Goals as goal

pub loop-i-init : goal.loop-i-init
loop-i-init c = λ g. g.1 ∙ rows_none _ _

pub loop-i-preserved : goal.loop-i-preserved
loop-i-preserved c = λ g.
    let l = c.loop-i in
    let a = c.args in
    let S = a.settings in
    let f = claim S a.e a.step a.c0.now a.c1.now a.c2.now in
    c.next_row.ensures (g.0, omega arith)
    ∙ ap (spliced (λ k. get_or (f l.i) k 0) (l.i * width) S.degree) (l.invariant g)
    ∙ rows_more S f l.i (omega (arith, c.requires.0)) (ready S g.0.allowed).degree_most

pub returns : goal.returns
returns c = λ g.
    let l = c.loop-i in
    let a = c.args in
    let all : l.i ≡ a.settings.rows = omega arith in
    l.invariant g ∙ ap (first_rows a.settings (claim a.settings a.e a.step a.c0.now a.c1.now a.c2.now)) all ∙ rows_all a.settings _
