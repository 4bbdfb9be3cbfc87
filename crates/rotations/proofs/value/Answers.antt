-- The element c0, then its multiples of c1 and c2, one after the other.
use Rattle.std.proofs.Common.{◌+◌, ◌*◌, ◌<◌, ◌≤◌, ◌∙◌, mod-lt, arith}
use Rattle.protocol.specs.Element.{width}
use Rattle.rotations.proofs.Values.{first_summands, second_summands, value-done}
use Rattle.rotations.proofs.value.Goals as goal

pub overflow_add-once : goal.overflow_add-once
overflow_add-once c = omega (arith, c.on_circle-once.ensures.1)

pub returns : goal.returns
returns c = λ f.
    let o = c in
    let w = c in
    let a = o.args in
    let d : (0 < a.d) × (a.d ≤ width) = (f.degree, f.degree_most) in
    let once = o.on_circle-once.ensures.0 d in
    let twice = w.on_circle-twice.ensures.0 d in
    let copied = c.store.ensures
    (record { there = omega (arith, f.coefficients.first.long); room = omega (arith, f.room) }) in
    let first = c.accumulate_turned.ensures (record {
      exponent = omega (arith, once, mod-lt a.e {m = 2 * a.d} (omega arith));
      summands = first_summands a.q a.d a.e f.degree a.c0.now a.c1.now a.c2.now a.out.now _ a.out.now f.coefficients
          o.on_circle-once.result w.on_circle-twice.result f.room once twice copied;
    }) in
    c.accumulate_turned-2.ensures (record {
      exponent = omega (arith, twice, mod-lt (o.on_circle-once.result + o.on_circle-once.result) {m = 2 * a.d} (omega arith));
      summands = second_summands a.q a.d a.e f.degree a.c0.now a.c1.now a.c2.now a.out.now _ _ f.coefficients
          o.on_circle-once.result w.on_circle-twice.result f.room once twice copied first;
    })
    ∙ value-done a.q a.d a.e f.degree a.c0.now a.c1.now a.c2.now a.out.now _ _ f.coefficients
    o.on_circle-once.result w.on_circle-twice.result f.room once twice copied first
