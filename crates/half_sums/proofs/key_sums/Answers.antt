use Rattle.std.proofs.Common.{get_or, ap, arith}
use native.Mathlib.Nat.{zero-add}
use Rattle.protocol.specs.Element.{modulo}
use Rattle.residues.specs.Residues.{signed}
use Rattle.half_sums.proofs.key_sums.Goals as goal

pub returns : goal.returns
unfolding signed modulo
returns c = λ l h.
    let a = c.args in
    c.add_parts.ensures l (λ p b. record {
      left = omega (arith, ap (λ j. get_or a.first.now j 0) (zero-add p), h.0.each p b);
      right = omega (arith, ap (λ j. get_or a.second.now j 0) (zero-add p), h.1.each p b);
    })
