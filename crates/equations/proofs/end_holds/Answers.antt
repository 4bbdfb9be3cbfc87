use mathlib.Core.Path.{sym, ap, ◌∙◌}
use mathlib.Core.Bool.{◌&&◌}
use Rattle.protocol.specs.Element.{signed, residue}
use Rattle.protocol.specs.Transcript.{end_holds, end_met}
use Rattle.equations.proofs.end_holds.Goals as goal

pub returns-then-not-final_bounded : goal.returns-then-not-final_bounded
unfolding end_met
returns-then-not-final_bounded c = λ g _. let a = c.args in
    sym (ap (λ b. b && end_holds a.settings a.claim.now (signed a.f.now) (residue a.g.now)) (sym (c.final_bounded.ensures g.allowed) ∙ c.if-not-final_bounded.true))

pub returns : goal.returns
unfolding end_met
returns c = λ g below.
    let a = c.args in
    let t = sym (c.final_bounded.ensures g.allowed) ∙ c.if-not-final_bounded.false in
    c.equation_met.ensures (record { allowed = g.allowed; bounded = t; residues = below }) ∙ sym (ap (λ b. b && end_holds a.settings a.claim.now (signed a.f.now) (residue a.g.now)) t)
