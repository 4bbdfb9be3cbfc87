use mathlib.Core.Path.{ap, ◌∙◌}
use Prim.Native.Nat.{◌+◌, ◌*◌}
use native.Mathlib.Omega.{arith}
use Rattle.equations.proofs.Polynomials.{part-long, holds_is}
use Rattle.equations.proofs.rounds.polynomial_holds.Goals as goal

pub returns : goal.returns
returns c = λ g.
    let a = c.args in
    let S = a.settings in
    let d = S.degree in
    let is_at = c.polynomial_at-at.ensures.0 g.allowed g.index in
    let is_n = c.item_cells-n.ensures.0 g.allowed in
    let at = c.polynomial_at-at.result in
    let third = at + 2 * c.item_cells-n.result in
    c.round_holds.ensures (record {
      allowed = g.allowed;
      first = g.claim_long;
      second = part-long at d a.rounds.now (omega (arith, is_at, is_n, g.inside));
      third = part-long third d a.rounds.now (omega (arith, is_at, is_n, g.inside));
    })
    ∙ holds_is S a.rounds.now a.k at third is_at (ap (λ x. at + 2 * x) is_n) a.claim.now
