use Rattle.std.proofs.Common.{◌≡◌, ◌+◌, ◌*◌, ◌%◌, ◌^◌, get_or, ap, ◌∙◌, arith}
use native.Mathlib.Nat as Nat
use Rattle.residues.proofs.Fill.{filled_none, filled-turn, filled-end, filled-behind}
use Rattle.transform.specs.Steps.{with_product}
use Rattle.transform.proofs.add_products.Goals as goal

pub loop-j-init : goal.loop-j-init
loop-j-init c = λ _. filled_none _ _

pub loop-j-preserved : goal.loop-j-preserved
loop-j-preserved c = λ h.
    let l = c.loop-j in
    let a = c.args in
    let cell = with_product a.x.now a.y.now a.sums.now in
    let was : get_or l.sums l.j 0 ≡ get_or a.sums.now l.j 0 = ap (λ s. get_or s l.j 0) (l.invariant h) ∙ filled-behind cell l.j a.sums.now 0 l.j (Nat.le_refl l.j) in
    filled-turn cell l.j a.sums.now (l.invariant h) (λ i. (was i + c.least.ensures.1 (h.0 l.j) i * c.least-in-loop-j.ensures.1 (h.1 l.j) i) % 2 ^ 32) (omega arith)

pub returns : goal.returns
returns c = λ h. filled-end _ _ (c.loop-j.invariant h) (omega arith)
