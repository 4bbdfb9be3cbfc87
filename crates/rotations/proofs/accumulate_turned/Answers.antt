use Rattle.std.proofs.Common.{◌≡◌, ◌+◌, ◌-◌, refl, arith}
use Rattle.rotations.proofs.Values.{placed, element_may}
use Rattle.rotations.proofs.accumulate_turned.Goals as goal

pub returns : goal.returns
returns c = λ f.
    let a = c.args in
    let e : a.to + a.d - a.to ≡ a.d = omega arith in
    placed a.q a.d a.e a.to a.a.now a.out.now _ (omega arith) e
    (c.add_multiple.ensures a.q (record { is = λ n x y. refl; may = element_may a.q a.d a.e a.to a.a.now a.out.now a.out.now (omega arith) e f.summands }))
