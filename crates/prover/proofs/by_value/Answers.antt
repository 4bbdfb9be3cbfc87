use Rattle.std.proofs.Common.{◌∙◌, arith}
use lib.Seq.{length-take-le}
use Rattle.prover.proofs.Values.{item-front}
use Rattle.prover.proofs.by_value.Goals as goal

pub returns : goal.returns
returns c = λ ok room.
    let a = c.args in
    let n = c.item_cells-n.ensures.0 ok in
    c.residues.ensures ok (length-take-le c.item_cells-n.result a.item.now (omega arith) ∙ n) ∙ item-front a.settings
    c.item_cells-n.result n a.item.now
