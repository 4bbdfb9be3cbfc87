use Rattle.std.proofs.Common.{◌≡◌, true, false, refl, rules}
use Rattle.std.proofs.lemmas.Iterator.{cases_from_all}
use borrow.Author.Tests.{tests}
use Rattle.protocol.specs.Tree.{apart}
use Rattle.protocol.proofs.Chains.{every_asked, from_zero}
use Rattle.refusals.proofs.tree.all_differ.Goals as goal

pub returns : goal.returns
returns c =
    let f = apart c.args.challenges.now in
    every_asked c.args.nodes f c.all.result (cases_from_all _ _ _ (λ i. f i ≡ true) (λ i. f i ≡ false) c.all.ensures.ran (from_zero c.args.nodes refl) (λ x q k. search (rules, tests)) (λ x q k. search (rules, tests)))
