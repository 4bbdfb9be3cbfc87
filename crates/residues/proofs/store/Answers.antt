-- The loop fills a part of the table.
use Rattle.std.proofs.Common.{◌≡◌, ◌+◌, ◌-◌, ◌<◌, length, drop, arith, length-drop, length-take-le}
use Rattle.std.proofs.lemmas.List.{get_or_read}
use Rattle.residues.proofs.Fill.{filled_none, filled-turn}
use Rattle.residues.proofs.Adding.{part_filled}
use Rattle.residues.proofs.store.Goals as goal

pub loop-k-init : goal.loop-k-init
loop-k-init g c = filled_none _ _

pub loop-k-preserved : goal.loop-k-preserved
loop-k-preserved g c =
    let a = c.args in
    let l = c.loop-k in
    let there : l.k < length a.row.now = omega (arith, length-take-le (a.at + a.n - a.at) (drop a.at a.out.now) (omega (arith, length-drop a.at a.out.now))) in
    filled-turn _ l.k _ l.invariant (get_or_read a.row.now l.k _ there c.index-row-k.is g.T.Entry.NONE) (omega arith)

pub returns : goal.returns
returns g c = λ f.
    let a = c.args in
    let l = c.loop-k in
    let e : a.at + a.n - a.at ≡ a.n = omega arith in
    part_filled _ a.at a.n a.out.now l.part l.k (omega arith) e l.invariant (omega arith) (omega arith)
