use Rattle.std.proofs.Common.{ℕ, arith}
use lib.ListN.{length-replicate}
use Rattle.residues.proofs.Fill.{replicate_at}
use Rattle.products.proofs.Rows.{message_given}
use Rattle.products.proofs.send_rows.Goals as goal

pub returns : goal.returns
returns g c = λ G z.
    let a = c.args in
    let h = a.shape in
    let given = message_given h.sums 12289 h.degree h.elements a.f.now (G 0) (z.0.rows.given 0 z.0.rows.some) in
    let long = length-replicate {A = ℕ} g.row.X 0 in
    let ready = c.prepare.ensures (z.0.suits, given, (λ k. omega (arith, replicate_at {A = ℕ} 0 g.row.X k)), omega (arith, long)) in
    c.write_rows.ensures a.f.now G (z.0, z.1, ready, omega (arith, long, c.prepare.auto.x))
