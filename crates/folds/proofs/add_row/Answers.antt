use Rattle.std.proofs.Common.{◌≡◌, ◌+◌, ◌*◌, ◌<◌, length, subst, arith}
use Rattle.residues.specs.Places.{Added}
use Rattle.residues.proofs.Added.{among_none, among_all, among_more, now-inside, line-fresh}
use Rattle.folds.proofs.add_row.Goals as goal

pub loop-i-init : goal.loop-i-init
loop-i-init g c = among_none _ _

pub loop-i-preserved : goal.loop-i-preserved
loop-i-preserved g c =
    let a = c.args in
    let l = c.loop-i in
    among_more (λ i x. x ≡ a.at + i * 1) a.n l.i (line-fresh a.at 1 a.n (omega arith)) c.requires c.loop-i-test.true l.invariant
    (subst (λ x. Added g.T.Entry.NONE (g.S.Sum.allowed a.by) (g.S.Sum.sum a.by a.negative) a.from a.to (λ y. y ≡ x) l.t c.add_one.new.t) {x = a.at + l.i} (omega arith) c.add_one.ensures)

pub returns : goal.returns
returns g c = let a = c.args in among_all (λ i x. x ≡ a.at + i * 1) a.n c.loop-i.i (omega arith) (omega arith) c.loop-i.invariant

-- both numbers are in the table
pub overflow_add-at : goal.overflow_add-at
overflow_add-at g c =
    let a = c.args in
    let l = c.loop-i in
    let room : (a.from + (a.at + l.i) < length l.t) × (a.to + (a.at + l.i) < length l.t) = now-inside (λ i x. x ≡ a.at + i * 1) a.n l.i (line-fresh a.at 1 a.n (omega arith)) c.requires c.loop-i-test.true l.invariant _ (omega arith) in
    omega (arith, room.0)

pub add_one-requires : goal.add_one-requires
add_one-requires g c =
    let a = c.args in
    let l = c.loop-i in
    now-inside (λ i x. x ≡ a.at + i * 1) a.n l.i (line-fresh a.at 1 a.n (omega arith)) c.requires c.loop-i-test.true l.invariant _ (omega arith)
