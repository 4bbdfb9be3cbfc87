use Rattle.std.proofs.Common.{◌<◌, ◌≤◌, false, length, take, arith, length-take-le}
use Rattle.residues.proofs.Fill.{filled_none}
use Rattle.residues.proofs.Adding.{pair_turn, front_filled}
use Rattle.half_sums.proofs.add_parts.Goals as goal

pub loop-p-init : goal.loop-p-init
loop-p-init g c = λ _. filled_none _ _

pub loop-p-preserved : goal.loop-p-preserved
loop-p-preserved g c = λ h.
    let a = c.args in
    let l = c.loop-p in
    let few : length (take a.n a.sums.now) ≤ a.n = omega (arith, length-take-le a.n a.sums.now (omega arith)) in
    let one : l.p < length a.first.now = omega arith in
    let two : l.p < length a.second.now = omega arith in
    pair_turn g.T.Entry.NONE (g.S.Sum.allowed a.by) (g.S.Sum.sum a.by false) a.first.now a.second.now (take a.n a.sums.now) l.front l.p _ _ (l.invariant h) (omega arith) one two
    c.index-first-p.is c.index-second-p.is c.add.ensures (h l.p (omega arith))

pub returns : goal.returns
returns g c = λ _ h. let a = c.args in front_filled _ a.n a.sums.now (omega arith) (c.loop-p.invariant h) (omega arith) (omega arith)
