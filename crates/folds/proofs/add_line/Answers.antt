use Rattle.std.proofs.Common.{◌≡◌, ◌+◌, ◌*◌, ◌<◌, length, sym, refl, subst, arith}
use Rattle.residues.specs.Places.{Line, Apart, Added}
use Rattle.residues.proofs.Added.{among_none, among_all, among_more, now-inside, line-fresh}
use Rattle.folds.proofs.add_line.Goals as goal

-- a row is a line of steps of 1
pub add_row-requires : goal.add_row-requires
add_row-requires g c = let a = c.args in subst (λ step. Apart (Line a.at step a.n) a.from a.to (length a.t.now)) c.if-step-eq1.true c.requires.1

pub returns-then-step-eq1 : goal.returns-then-step-eq1
returns-then-step-eq1 g c =
    let a = c.args in
    subst (λ step. Added g.T.Entry.NONE (g.S.Sum.allowed a.by) (g.S.Sum.sum a.by a.negative) a.from a.to (Line a.at step a.n) a.t.now c.add_row.new.t) (sym c.if-step-eq1.true) c.add_row.ensures

pub loop-i-init : goal.loop-i-init
loop-i-init g c = among_none _ _

pub loop-i-preserved : goal.loop-i-preserved
loop-i-preserved g c =
    let a = c.args in
    let l = c.loop-i in
    among_more (λ i x. x ≡ a.at + i * a.step) a.n l.i (line-fresh a.at a.step a.n c.requires.0) c.requires.1 c.loop-i-test.true l.invariant c.add_one.ensures

pub returns : goal.returns
returns g c = let a = c.args in among_all (λ i x. x ≡ a.at + i * a.step) a.n c.loop-i.i (omega arith) (omega arith) c.loop-i.invariant

-- both numbers are in the table
pub overflow_add-at : goal.overflow_add-at
overflow_add-at g c =
    let a = c.args in
    let l = c.loop-i in
    let room : (a.from + (a.at + l.i * a.step) < length l.t) × (a.to + (a.at + l.i * a.step) < length l.t) = now-inside (λ i x. x ≡ a.at + i * a.step) a.n l.i (line-fresh a.at a.step a.n c.requires.0) c.requires.1 c.loop-i-test.true l.invariant _ refl in
    omega (arith, room.0)

pub overflow_mul-i : goal.overflow_mul-i
overflow_mul-i g c =
    let a = c.args in
    let l = c.loop-i in
    let room : (a.from + (a.at + l.i * a.step) < length l.t) × (a.to + (a.at + l.i * a.step) < length l.t) = now-inside (λ i x. x ≡ a.at + i * a.step) a.n l.i (line-fresh a.at a.step a.n c.requires.0) c.requires.1 c.loop-i-test.true l.invariant _ refl in
    omega (arith, room.0)

pub add_one-requires : goal.add_one-requires
add_one-requires g c =
    let a = c.args in
    let l = c.loop-i in
    now-inside (λ i x. x ≡ a.at + i * a.step) a.n l.i (line-fresh a.at a.step a.n c.requires.0) c.requires.1 c.loop-i-test.true l.invariant _ refl
