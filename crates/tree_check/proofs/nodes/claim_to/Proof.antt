use mathlib.Core.Path.{ap, ◌∙◌}
use native.Mathlib.Omega.{arith}
use lib.ListN.{get_or}
use Rattle.protocol.specs.Element.{residue_at}
use Rattle.protocol.specs.Layout.{item_of}
use Rattle.protocol.specs.Transcript.{next_claim}
use Rattle.protocol.specs.TreeCheck.{node_element, claim_to}
use Rattle.protocol.proofs.Agreement.{claim_same}
use Rattle.tree_check.specs.Nodes.{tree_row}
use Rattle.tree_check.proofs.Checks.{node_same}
use borrow.Author.Rules.{rules}
use Rattle.tree_check.proofs.nodes.claim_to.Statement.{statement}
use Rattle.tree_check.proofs.nodes.claim_to.Tie as tie

returns : tie.Need-returns
unfolding claim_to node_element
returns c = λ below i l.
    let e = c in
    let s = e in
    let a = s.args in
    let S = a.settings in
    let d = S.degree in
    let t = tree_row S a.rounds.now in
    let R = s.requires.0 in
    let same = node_same S a.k _ a.rounds.now R in
    c.next_claim.ensures (record { of_round = record { allowed = R.allowed; index = R.index; inside = R.inside; claim_long = s.requires.2 }; below = λ j _. below j }) i l
    ∙ ap (λ x. get_or x i 0) (claim_same S (same 0 (omega arith)) (same 1 (omega arith)) (same 2 (omega arith)) e.challenge-e.result)
    ∙ ap (λ x. get_or (next_claim S x (residue_at d t (item_of a.k 0)) (residue_at d t (item_of a.k 1)) (residue_at d t (item_of a.k 2))) i 0) e.challenge-e.ensures

pub claim_to_spec : {M : Type 1} → statement M
claim_to_spec = tie.close (tie.spec (λ c κs. search rules) (λ c κs. search rules) (λ c. search rules) returns)
