use mathlib.Core.Path.{◌≡◌, ap, ◌∙◌}
use Prim.Native.Nat.{◌+◌, ◌-◌, ◌%◌}
use native.Mathlib.Nat.{mod-lt}
use native.Mathlib.Omega.{arith}
use Rattle.residues.specs.Residues.{BothBelow}
use Rattle.round_products.proofs.Less.{minus_is}
use Rattle.round_products.proofs.minus_both.Goals as goal

pub returns : goal.returns
returns c = λ h.
    let a = c.args in
    let q = a.q in
    let first : BothBelow q a.x a.a = record { left = h.0; right = h.1 } in
    let is : c.minus.result ≡ (a.x + (q - a.a)) % q = c.minus.ensures first ∙ minus_is first in
    let both : BothBelow q c.minus.result a.b = record { left = omega (arith, is, mod-lt (a.x + (q - a.a)) {m = q} (omega arith)); right = h.2 } in
    c.minus-2.ensures both ∙ minus_is both ∙ ap (λ y. (y + (q - a.b)) % q) is
