use Rattle.std.proofs.Common.{arith}
use Rattle.protocol.specs.Element.{residue}
use Rattle.rows.proofs.Extension.{front-prepared}
use Rattle.rows.proofs.prepare.Goals as goal

pub returns : goal.returns
returns c = λ g.
    let a = c.args in
    front-prepared a.q a.d (omega (arith, g.residues.each 0 g.degree)) g.degree (residue a.a.now) a.x.now _ g.places (c.write_rows.ensures g.residues)
