use mathlib.Core.Path.{ap, ◌∙◌}
use native.Mathlib.Omega.{arith}
use lib.ListN.{get_or}
use Rattle.protocol.specs.Element.{reduced}
use Rattle.protocol.proofs.Reading.{tabulate_ext}
use Rattle.residues.proofs.Padding.{padded_at}
use Rattle.slices.proofs.Elements.{stored_whole}
use borrow.Author.Rules.{rules}
use Rattle.measured.proofs.measured_plain_inner.Statement.{statement}
use Rattle.measured.proofs.measured_plain_inner.Tie as tie

returns : tie.Need-returns
unfolding reduced
returns c = λ z long.
    let a = c.args in
    let is = c.inner-sum.ensures z in
    c.store.ensures (record { there = omega (arith, z.elements.degree_most); room = omega (arith, long) })
    ∙ stored_whole a.degree _ a.out.now long
    ∙ tabulate_ext a.degree (λ k h. ap (λ l. get_or l k 0) is ∙ padded_at a.degree _ k h)

pub measured_plain_inner_spec : {M : Type 1} → statement M
measured_plain_inner_spec = tie.close (tie.spec (λ c κs. search rules) (λ c. search rules) (λ c κs. search rules) (λ c. search rules) returns)
