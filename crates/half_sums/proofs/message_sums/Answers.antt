use Rattle.residues.specs.Residues.{signed}
use Rattle.half_sums.proofs.message_sums.Goals as goal

pub returns : goal.returns
unfolding signed
returns c = λ l h. c.add_parts.ensures l (λ p b. record { left = h.0.each p b; right = h.1.each p b })
