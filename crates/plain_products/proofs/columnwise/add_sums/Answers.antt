use mathlib.Core.Path.{refl, subst}
use Prim.Native.Nat.{◌*◌, ◌^◌, ◌≤◌}
use native.Mathlib.Omega.{arith}
use lib.ListN.{length}
use Rattle.protocol.specs.Opening.{inner}
use Rattle.half_sums.specs.Halves.{message_sums, key_sums}
use Rattle.product_sums.specs.Sums.{Stands}
use Rattle.product_sums.proofs.Standing.{stands_first, columns-stand}
use Rattle.plain_products.proofs.SumsOfHalves.{sums_columned, sums_more}
use Rattle.plain_products.proofs.columnwise.add_sums.Goals as goal

pub loop-i-init : goal.loop-i-init
loop-i-init c = λ t z. stands_first _ 4 (4 * 2 ^ 16) _ c.args.s.now t z.2

pub loop-i-preserved : goal.loop-i-preserved
loop-i-preserved c = λ u z.
    let a = c.args in
    let l = c.loop-i in
    let test = c.loop-i-test.true in
    let halves = c.add_halves in
    let added = c.add_product in
    let m_long : 4 ≤ length halves.new.m = omega (arith, halves.auto.m, l.auto.m) in
    let k_long : 4 ≤ length halves.new.k = omega (arith, halves.auto.k, l.auto.k) in
    let is = halves.ensures a.h l.i (record { halves = z.0; inside = test; first = refl; second_at = refl }, omega (arith, l.auto.m), omega (arith, l.auto.k)) in
    let ok = sums_columned a.q 4 a.h l.i a.f.now a.g.now z.0 test _ _ is m_long k_long in
    sums_more a.q 4 a.h l.i a.f.now a.g.now z.0 test _ _ is _ u
    (columns-stand a.q 4 (2 ^ 16) _ _ ok _ _ l.s u (l.invariant u z) z.1 _
    (added.ensures (record { degree = omega arith; coefficients = m_long; residues = k_long; sums = omega (arith, l.auto.s) })))

pub returns : goal.returns
returns c = λ t z.
    let a = c.args in
    let l = c.loop-i in
    subst (λ n. Stands a.q 4 (inner 4 n (message_sums 4 a.h a.f.now) (key_sums a.q 4 a.h a.g.now)) (n * (4 * 2 ^ 16)) l.s t) {x = l.i} {y = a.h} (omega arith) (l.invariant t z)
