use mathlib.Core.Path.{ap}
use Prim.Native.Nat.{◌+◌, ◌*◌}
use native.Mathlib.Omega.{arith}
use Rattle.equations.proofs.Ready.{ready}
use Rattle.equations.proofs.Polynomials.{part-residues, claim-alike}
use Rattle.equations.proofs.rounds.next_claim.Goals as goal

pub returns : goal.returns
returns c = λ g.
    let a = c.args in
    let S = a.settings in
    let d = S.degree in
    let r = ready S g.of_round.allowed in
    let is_at = c.polynomial_at-at.ensures.0 g.of_round.allowed g.of_round.index in
    let is_n = c.item_cells-n.ensures.0 g.of_round.allowed in
    let at = c.polynomial_at-at.result in
    let n = c.item_cells-n.result in
    claim-alike S a.rounds.now a.k at (at + 2 * n) is_at (ap (λ x. at + 2 * x) is_n) a.e (at + n) (ap (λ x. at + x) is_n) a.claim.now
    (c.value.ensures (record {
      degree = omega arith;
      degree_most = r.degree_most;
      coefficients = record {
        modulus = omega arith;
        first = part-residues S.modulus at d a.rounds.now (omega (arith, is_at, is_n, g.of_round.inside)) (λ j l. g.below j (omega (arith, is_at, is_n)));
        second = part-residues S.modulus (at + n) d a.rounds.now (omega (arith, is_at, is_n, g.of_round.inside)) (λ j l. g.below j (omega (arith, is_at, is_n)));
        third = part-residues S.modulus (at + 2 * n) d a.rounds.now (omega (arith, is_at, is_n, g.of_round.inside)) (λ j l. g.below j (omega (arith, is_at, is_n)));
      };
      room = g.of_round.claim_long;
    }))
