use mathlib.Core.Path.{◌∙◌}
use Prim.Native.Nat.{◌*◌}
use Rattle.equations.proofs.Polynomials.{part-long}
use Rattle.tree_check.proofs.Checks.{leaf-is}
use borrow.Author.Rules.{rules}
use Rattle.tree_check.proofs.nodes.leaf_accepted.Statement.{statement}
use Rattle.tree_check.proofs.nodes.leaf_accepted.Tie as tie

returns : tie.Need-returns
returns c = λ below.
    let a = c.args in
    let d = a.settings.degree in
    c.end_holds.ensures (record { allowed = c.requires.0; first = c.requires.2; second = part-long (a.j * d) d a.leaves.now c.requires.1; third = c.requires.3 }) (λ k _. below k)
    ∙ leaf-is a.settings a.leaves.now a.j a.claim.now a.folded.now

pub leaf_accepted_spec : {M : Type 1} → statement M
leaf_accepted_spec =
    tie.close
    (tie.spec (λ c. search rules) (λ c. search rules) (λ c. search rules) (λ c. search rules) (λ c. search rules) (λ c. search rules)
    (λ c κs. search rules) returns)
