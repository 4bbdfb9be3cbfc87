use Rattle.std.proofs.Common.{◌∙◌, ◌+◌, ◌-◌, ap, take, drop, arith}
use Rattle.std.proofs.Math.Dec.{eqb}
use lib.Pointwise.{pointwise}
use Rattle.claim_tables.proofs.Parts.{parts_same}
use Rattle.claim_tables.proofs.same.Goals as goal

pub returns : goal.returns
returns c = λ h.
    let a = c.args in
    c.eq.ensures
    ∙ ap (λ n. pointwise eqb (take n (drop a.at a.table.now)) (take a.n a.row.now)) {x = a.at + a.n - a.at} {y = a.n} (omega arith)
    ∙ parts_same a.n a.at a.row.now a.table.now h.0 h.1
