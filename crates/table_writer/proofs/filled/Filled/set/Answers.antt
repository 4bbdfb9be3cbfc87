-- The place is one of the front.
use Rattle.std.proofs.Common.{ap, ◌∙◌, arith, length, length-take, set}
use Rattle.std.proofs.Math.Seq.{take-set-lt}
use Rattle.table_writer.proofs.filled.Filled.set.Goals as goal

pub returns : goal.returns
returns g c =
    let count = c.self.inside.count in
    let items = c.self.inside.items in
    take-set-lt count items c.args.k c.args.x (omega (arith, c.requires, length-take count items, ap length c.self.view_is))
    ∙ ap (λ l. set l c.args.k c.args.x) c.self.view_is
