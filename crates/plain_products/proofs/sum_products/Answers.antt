use mathlib.Core.Path.{◌≡◌, subst}
use Prim.Native.Nat.{◌*◌, ◌≤◌}
use native.Mathlib.Nat as Nat
use native.Mathlib.Omega.{arith}
use lib.ListN.{length}
use Rattle.half_sums.specs.Halves.{size_of}
use Rattle.product_sums.proofs.Rows.{first_known}
use Rattle.plain_products.proofs.Rows.{front_given, one_summed}
use Rattle.plain_products.proofs.sum_products.Goals as goal

pub add_products-requires : goal.add_products-requires
add_products-requires c =
    let s = c in
    let a = s.args in
    let is : a.shape.degree ≡ 4 = c.if-degree-eq4.true in
    let one : a.shape.rows ≡ 1 = c.if-rows-eq1.true in (
      s.requires.3,
      subst (λ d. size_of a.shape.sums d a.shape.elements ≤ length a.f.now) is s.requires.2.first,
      subst (λ d. size_of a.shape.sums d a.shape.elements ≤ length a.g.now) is s.requires.2.second,
      omega (arith, is, s.requires.4.message),
      omega (arith, is, s.requires.4.key),
      omega (arith, is, s.requires.4.lowers, Nat.mul-one a.shape.degree, subst (λ r. a.shape.degree * r ≤ length a.s.now) one s.requires.4.lowers),
    )

-- by columns
pub returns-then-modulus-lt4294967296 : goal.returns-then-modulus-lt4294967296
returns-then-modulus-lt4294967296 c = λ G z.
    let a = c.args in
    one_summed a.shape.sums a.shape.modulus a.shape.degree a.shape.elements a.shape.rows a.shape.stride a.f.now a.g.now G z.0
    c.if-rows-eq1.true _ _
    (c.add_products.ensures a.shape.degree a.t.now (
      c.if-degree-eq4.true,
      c.if-modulus-lt4294967296.true,
      front_given a.shape.sums a.shape.modulus a.shape.degree a.shape.elements a.shape.rows a.shape.stride a.f.now
          a.g.now G z.0,
      z.1,
      z.2,
    ))

-- by rows
pub returns : goal.returns
returns c = λ G z.
    let a = c.args in
    let known = first_known a.shape.sums a.shape.modulus a.shape.degree a.shape.elements a.shape.rows a.shape.stride a.f.now a.g.now G z.0 in
    record {
      count = a.shape.elements * (a.shape.degree * known.magnitude);
      few = known.few;
      stands = c.add_elements.ensures
          G known.magnitude (z.0, known.within, c.requires.4, z.1, z.2);
    }
