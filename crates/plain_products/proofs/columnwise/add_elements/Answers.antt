use mathlib.Core.Path.{sym, subst}
use Prim.Native.Nat.{◌*◌}
use native.Mathlib.Nat as Nat
use Rattle.protocol.specs.Element.{signed_at, residue_at}
use Rattle.protocol.specs.Opening.{inner}
use Rattle.product_sums.specs.Sums.{Stands}
use Rattle.product_sums.proofs.Standing.{table_stands}
use Rattle.plain_products.proofs.columnwise.add_elements.Goals as goal

pub returns : goal.returns
returns c = λ q t z h.
    let a = c.args in
    subst (λ l. Stands q 4 (inner 4 a.n (signed_at 4 a.f.now) (residue_at 4 a.g.now)) (a.n * (4 * z.magnitude)) l t)
    (sym (c.add_table.ensures (record { coefficients = c.requires.0; residues = c.requires.1; sums = c.requires.2 })))
    (table_stands q a.n a.f.now a.g.now z h.0 a.s.now t h.1 a.n (Nat.le_refl a.n))
