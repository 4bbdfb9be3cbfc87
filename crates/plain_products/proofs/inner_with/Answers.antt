use Rattle.std.proofs.Common.{ℕ, arith}
use lib.ListN.{length-replicate}
use Rattle.protocol.specs.Element.{Element}
use Rattle.protocol.specs.Opening.{inner}
use Rattle.residues.proofs.Fill.{replicate_at}
use Rattle.half_sums.specs.Halves.{messages_of, keys_of}
use Rattle.product_sums.proofs.Rows.{first_known}
use Rattle.plain_products.proofs.inner_with.Goals as goal

pub returns : goal.returns
returns g c = λ G z.
    let a = c.args in
    let known = first_known a.shape.sums a.shape.modulus a.shape.degree a.shape.elements a.shape.rows a.shape.stride a.f.now a.g.now G z.0 in
    let sum = c.sum_products in
    let F : ℕ → Element = λ r. inner a.shape.degree a.shape.elements (messages_of a.shape.sums a.shape.degree a.shape.elements a.f.now) (keys_of a.shape.sums a.shape.modulus a.shape.degree a.shape.elements (G r)) in
    c.write_rows.ensures F (
      record { positive = known.modulus; most = known.modulus_most_holds },
      known.degree_most,
      z.0.most,
      omega (arith, sum.auto.s, length-replicate {A = ℕ} g.row.C 0),
      omega (arith, sum.auto.t, length-replicate {A = ℕ} g.row.C 0),
      z.1,
      sum.ensures G (z.0, replicate_at 0 g.row.C, replicate_at 0 g.row.C),
    )
