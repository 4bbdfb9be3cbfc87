use mathlib.Core.Path.{◌∙◌}
use native.Mathlib.Omega.{arith}
use Rattle.equations.proofs.Ending.{final_summable, power_most, equation_is}
use Rattle.equations.proofs.Ready.{ready}
use Rattle.equations.proofs.equation_met.Goals as goal

pub returns : goal.returns
returns c = λ g.
    let a = c.args in
    let r = ready a.settings g.allowed in
    let all = c.left-power.ensures (record { allowed = g.allowed; most = omega arith }) in
    c.product_is.ensures (
      final_summable a.settings r a.f.now g.bounded a.g.now (omega arith) (omega arith) g.residues,
      omega arith,
      power_most a.settings r a.f.now g.bounded a.g.now a.claim.now _ all,
    )
    ∙ equation_is a.settings r a.f.now g.bounded a.g.now a.claim.now _ all
