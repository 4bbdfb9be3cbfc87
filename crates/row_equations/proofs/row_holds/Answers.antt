use Rattle.std.proofs.Common.{◌∙◌, ◌*◌, arith}
use Rattle.protocol.specs.Element.{width}
use Rattle.equations.proofs.Ready.{ready}
use Rattle.equations.proofs.Polynomials.{part-long}
use Rattle.verifier_refusals.proofs.Lent.{lent_inside}
use Rattle.row_equations.proofs.RowByRow.{row-holds}
use Rattle.row_equations.proofs.row_holds.Goals as goal

pub returns : goal.returns
returns c = λ g.
    let a = c.args in
    let S = a.settings in
    let ok = g.allowed in
    let at = a.i * a.step in
    let i = c.requires.0 in
    c.round_holds.ensures (record {
      allowed = ok;
      first = part-long (a.i * width) S.degree a.claims.now (omega (arith, (ready S ok).degree_most));
      second = part-long at S.degree a.c0.now (lent_inside S ok a.step a.c0.now g.first a.i i);
      third = part-long at S.degree a.c2.now (lent_inside S ok a.step a.c2.now g.third a.i i);
    })
    ∙ row-holds S ok a.step a.i i a.claims.now a.c0.now a.c2.now
