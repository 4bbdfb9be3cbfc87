use Rattle.std.proofs.Common.{◌*◌, arith}
use Rattle.protocol.proofs.Reading.{row_inside}
use Rattle.residues.specs.Places.{Line}
use Rattle.residues.proofs.Added.{among_none, among_all, among_more, now_apart}
use Rattle.folds.proofs.add_grid.Goals as goal

pub loop-j-init : goal.loop-j-init
loop-j-init g c = among_none _ _

pub overflow_mul-j : goal.overflow_mul-j
overflow_mul-j g c = let a = c.args in omega (arith, row_inside a.gap a.m c.loop-j.j c.loop-j-test.true)

pub add_line-requires : goal.add_line-requires
add_line-requires g c =
    let a = c.args in
    let l = c.loop-j in
    (c.requires.0, now_apart (λ j. Line (j * a.gap) a.step a.n) a.m l.j c.requires.2 c.requires.3 c.loop-j-test.true l.invariant)

pub loop-j-preserved : goal.loop-j-preserved
loop-j-preserved g c =
    let a = c.args in
    let l = c.loop-j in
    among_more (λ j. Line (j * a.gap) a.step a.n) a.m l.j c.requires.2 c.requires.3 c.loop-j-test.true l.invariant c.add_line.ensures

pub returns : goal.returns
returns g c = let a = c.args in among_all (λ j. Line (j * a.gap) a.step a.n) a.m c.loop-j.j (omega arith) (omega arith) c.loop-j.invariant
