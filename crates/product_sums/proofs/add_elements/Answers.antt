use mathlib.Core.Path.{subst}
use Prim.Native.Nat.{◌*◌}
use native.Mathlib.Omega.{arith}
use Rattle.protocol.specs.Opening.{inner}
use Rattle.half_sums.specs.Halves.{messages_of, keys_of}
use Rattle.rows.specs.Rows.{woven}
use Rattle.product_sums.specs.Sums.{Stands}
use Rattle.product_sums.proofs.Standing.{woven-none}
use Rattle.product_sums.proofs.Rows.{first_known, inner_more}
use Rattle.product_sums.proofs.add_elements.Goals as goal

pub returns-then-shape-gt-WIDTH : goal.returns-then-shape-gt-WIDTH
returns-then-shape-gt-WIDTH c = λ G m z. absurd (omega (arith, (first_known _ _ _ _ _ _ _ _ G z.0).degree_most))

pub loop-i-init : goal.loop-i-init
loop-i-init c = λ G m z.
    let a = c.args in
    let h = a.shape in
    woven-none h.modulus h.rows h.degree (h.degree * m) (first_known h.sums h.modulus h.degree h.elements h.rows h.stride a.f.now a.g.now G z.0).modulus
    (messages_of h.sums h.degree h.elements a.f.now) (λ r. keys_of h.sums h.modulus h.degree h.elements (G r)) a.s.now a.t.now z.3 z.4

pub loop-i-preserved : goal.loop-i-preserved
loop-i-preserved c = λ G m z.
    let a = c.args in
    let h = a.shape in
    let l = c.loop-i in
    inner_more h.modulus h.rows h.degree (h.degree * m) l.i (messages_of h.sums h.degree h.elements a.f.now) (λ r. keys_of h.sums h.modulus h.degree h.elements (G r)) _ _
    (c.add_element.ensures G _ (l.i * (h.degree * m)) m (
      z.0,
      z.1,
      record {
        message = omega (arith, z.2.message, l.auto.m);
        key = omega (arith, z.2.key, l.auto.a);
        strands = omega (arith, z.2.strands, l.auto.k);
        prepared = omega (arith, z.2.prepared, l.auto.x);
        lowers = omega (arith, z.2.lowers, l.auto.s);
        uppers = omega (arith, z.2.uppers, l.auto.t);
      },
      l.invariant G m z,
    ))

pub returns : goal.returns
returns c = λ G m z.
    let a = c.args in
    let l = c.loop-i in
    subst (λ n. Stands a.shape.modulus (a.shape.degree * a.shape.rows) (woven a.shape.rows (λ r. inner a.shape.degree n (messages_of a.shape.sums a.shape.degree a.shape.elements a.f.now) (keys_of a.shape.sums a.shape.modulus a.shape.degree a.shape.elements (G r))))
    (n * (a.shape.degree * m)) l.s l.t)
    {x = l.i} {y = a.shape.elements} (omega arith) (l.invariant G m z)
