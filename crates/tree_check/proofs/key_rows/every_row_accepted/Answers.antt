use Rattle.std.proofs.Common.{◌≡◌, ℕ, Bool, true, false, refl, rules}
use Rattle.std.proofs.lemmas.Iterator.{cases_from_all}
use borrow.Author.Tests.{tests}
use Rattle.protocol.specs.Element.{value_row}
use Rattle.protocol.specs.Layout.{tree_challenges}
use Rattle.protocol.specs.Rows.{key_row, row_items}
use Rattle.protocol.specs.TreeCheck.{tree_accepted}
use Rattle.protocol.proofs.Chains.{every_asked, from_zero}
use Rattle.tree_check.specs.Nodes.{TreeGiven}
use Rattle.tree_check.proofs.key_rows.every_row_accepted.Goals as goal

pub returns : goal.returns
returns c = λ g.
    let a = c.args in
    let known : TreeGiven a.settings a.key.now a.rounds.now a.leaves.now = g in
    let f : ℕ → Bool = λ i. tree_accepted a.settings (row_items a.settings (tree_challenges a.settings) a.rounds.now i) a.challenges.now a.leaves.now a.settings.depth 0 0 (value_row a.commitment.now i) (key_row a.settings a.key.now i) in
    every_asked a.settings.rows f c.all.result (cases_from_all _ _ _ (λ i. f i ≡ true) (λ i. f i ≡ false) c.all.ensures.ran (from_zero a.settings.rows refl) (λ x q k. search (rules, tests)) (λ x q k. search (rules, tests)))
