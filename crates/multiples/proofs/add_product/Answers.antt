use Rattle.std.proofs.Common.{◌≡◌, ℕ, ◌*◌, List, ℤ, pos, sym, subst, arith}
use native.Mathlib.Nat as Nat
use Rattle.protocol.specs.Element.{product, signed, residue, signed_at, residue_at}
use Rattle.protocol.specs.Opening.{inner}
use Rattle.strands.proofs.Weaving.{one_woven}
use Rattle.product_sums.specs.Sums.{Stands, Summable, Zero}
use Rattle.product_sums.proofs.Standing.{stands-zero, table_stands}
use Rattle.multiples.proofs.OneProduct.{stands_one, one_addable, none_one, one_done}
use Rattle.multiples.proofs.add_product.Goals as goal

-- what the sums become, at every degree that is 4
abbrev Become : ℕ → List ℤ → List ℕ → List ℕ → List ℕ → List ℕ → ℕ → Type 0
Become q f g s t s' d = (z : Summable q d 1 f g) → Zero s → Zero t → Stands q d (product d (signed f) (residue g)) (d * z.magnitude) s' t

-- by columns
pub returns-then-q-lt4294967296 : goal.returns-then-q-lt4294967296
returns-then-q-lt4294967296 c = λ z g.
    let a = c.args in
    let is : a.d ≡ 4 = c.if-d-eq4.true in
    subst (Become a.q a.f.now a.g.now a.s.now a.t.now _) {x = 4} {y = a.d} (sym is)
    (λ z zs zt. stands_one a.q 4 (4 * z.magnitude) a.f.now a.g.now _ _
    (subst (λ l. Stands a.q 4 (inner 4 1 (signed_at 4 a.f.now) (residue_at 4 a.g.now)) (1 * (4 * z.magnitude)) l a.t.now)
    (sym (c.add_table.ensures (record { coefficients = omega (arith, is, c.requires.1); residues = omega (arith, is, c.requires.2); sums = omega (arith, is, c.requires.3) })))
    (table_stands a.q 1 a.f.now a.g.now z c.if-q-lt4294967296.true a.s.now a.t.now
    (stands-zero a.q 4 z.elements.modulus (signed_at 4 a.f.now) (residue_at 4 a.g.now) _ _ zs zt) 1 (omega arith))))
    z g.2 g.3

-- by rows, in one strand
pub returns : goal.returns
returns c = λ z g.
    let a = c.args in
    let e = z.elements in
    let ready = c.prepare.ensures
    (record {
      degree = e.degree;
      degree_most = omega (arith, e.degree_most);
      coefficients = c.requires.2;
      residues = record
          { each = λ j l. z.residues j (omega (arith, Nat.one-mul a.d)) };
      places = g.0;
    }) in
    one_done a.q a.d a.f.now a.g.now z _ _
    (c.add_prepared.ensures (λ _ _. pos 0) (λ _. residue a.g.now) 0 z.magnitude (
      one_addable a.q a.d a.f.now a.g.now z _ _ c.requires.1 c.requires.3 g.1,
      one_woven a.q a.d e.degree (λ _. residue a.g.now) _ ready,
      none_one a.q a.d a.f.now a.g.now z _ _ g.2 g.3,
    ))
