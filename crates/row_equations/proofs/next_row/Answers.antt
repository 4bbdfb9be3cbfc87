use Rattle.std.proofs.Common.{◌∙◌, ◌*◌, arith}
use Rattle.protocol.specs.Element.{width}
use Rattle.residues.proofs.Splice.{spliced_ext}
use Rattle.equations.proofs.Ready.{ready}
use Rattle.equations.proofs.Polynomials.{part-long}
use Rattle.row_equations.proofs.RowByRow.{part_back, row_residues, row_value}
use Rattle.row_equations.proofs.next_row.Goals as goal

pub returns : goal.returns
returns c = λ g.
    let a = c.args in
    let S = a.settings in
    let v = g.0 in
    let r = ready S v.allowed in
    let to = a.i * width in
    part_back _ to S.degree a.claims.now (c.value.ensures (record {
      degree = omega arith;
      degree_most = r.degree_most;
      coefficients = record {
        modulus = omega arith;
        first = row_residues S v.allowed a.step a.i g.1 a.c0.now v.first_lent v.first;
        second = row_residues S v.allowed a.step a.i g.1 a.c1.now v.second_lent v.second;
        third = row_residues S v.allowed a.step a.i g.1 a.c2.now v.third_lent v.third;
      };
      room = part-long to S.degree a.claims.now (omega (arith, r.degree_most));
    }))
    ∙ spliced_ext _ _ to S.degree a.claims.now (row_value S v.allowed a.step a.i g.1 a.e a.c0.now a.c1.now a.c2.now)
