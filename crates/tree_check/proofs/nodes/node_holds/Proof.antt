use mathlib.Core.Path.{refl, ◌∙◌}
use native.Mathlib.Omega.{arith}
use borrow.Author.Rules.{rules}
use Rattle.protocol.specs.TreeCheck.{node_element, node_holds}
use Rattle.protocol.proofs.Agreement.{round_same}
use Rattle.tree_check.proofs.Checks.{node_same}
use Rattle.tree_check.proofs.nodes.node_holds.Statement.{statement}
use Rattle.tree_check.proofs.nodes.node_holds.Tie as tie

returns : tie.Need-returns
unfolding node_holds node_element
returns c =
    let R = c.requires.0 in
    let a = c.args in
    let same = node_same a.settings a.k _ a.rounds.now R in
    c.polynomial_holds.ensures (record { allowed = R.allowed; index = R.index; inside = R.inside; claim_long = c.requires.1 })
    ∙ round_same a.settings (same 0 (omega arith)) (same 1 (omega arith)) (same 2 (omega arith)) a.claim.now a.claim.now (λ _ _. refl)

pub node_holds_spec : {M : Type 1} → statement M
node_holds_spec = tie.close (tie.spec (λ c κs. search rules) returns)
