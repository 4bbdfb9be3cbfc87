-- The loop keeps: the children before j are accepted.
use mathlib.Core.Path.{◌≡◌, refl, sym, subst, ◌∙◌}
use mathlib.Core.Bool.{true}
use Prim.Native.Nat.{◌-◌, ◌≤◌}
use native.Mathlib.Omega.{arith}
use lib.ListN.{length}
use borrow.Author.Tests.{not-true, not-false}
use Rattle.protocol.specs.Basic.{every}
use Rattle.ranges.proofs.Scan.{every-none, every_goes_on, every_fails, every_ends}
use Rattle.tree_check.specs.Nodes.{RootFolding, Reduced, tree_row, child_accepted}
use borrow.Author.Rules.{rules}
use Rattle.tree_check.proofs.nodes.root_children_accepted.Statement.{statement}
use Rattle.tree_check.proofs.nodes.root_children_accepted.Tie as tie

abbrev invariant-loop-j : tie.invariant-loop-j
invariant-loop-j settings key rounds challenges leaves ws₀ j₀ ws j =
    (j ≤ 3) × (Reduced settings rounds × Reduced settings key → every j (child_accepted settings (tree_row settings rounds) challenges leaves settings.depth 0 key) ≡ true) × (length ws ≡ length ws₀)

abbrev decreases-loop-j : tie.decreases-loop-j
decreases-loop-j settings key rounds challenges leaves ws₀ j₀ ws j = 3 - j

loop-j-init : tie.Need-loop-j-init invariant-loop-j decreases-loop-j
loop-j-init c = (omega arith, (λ z. every-none _), refl)

root_child_accepted-requires : tie.Need-root_child_accepted-requires invariant-loop-j decreases-loop-j
root_child_accepted-requires c κs =
    (c.requires.0, subst (RootFolding c.args.settings (length c.args.key.now)) (sym c.loop-j.invariant.2) c.requires.1, omega arith)

returns-then-not-root_child_accepted : tie.Need-returns-then-not-root_child_accepted invariant-loop-j decreases-loop-j
returns-then-not-root_child_accepted c = λ z. let l = c.loop-j in every_fails _ 3 l.j (omega arith)
    (sym (c.root_child_accepted.ensures z) ∙ not-true _ c.if-not-root_child_accepted.true-raw)

loop-j-preserved : tie.Need-loop-j-preserved invariant-loop-j decreases-loop-j
loop-j-preserved c =
    let l = c.loop-j in
    let child = c.root_child_accepted in
    (omega arith, (λ z. every_goes_on _ l.j (l.invariant.1 z) (sym (child.ensures z) ∙ not-false _ c.if-not-root_child_accepted.false-raw)), child.auto.ws ∙ l.invariant.2)

returns : tie.Need-returns invariant-loop-j decreases-loop-j
returns c = λ z. let l = c.loop-j in every_ends _ 3 l.j (l.invariant.1 z) (omega arith)

pub root_children_accepted_spec : {M : Type 1} → statement M
root_children_accepted_spec = tie.close (tie.spec invariant-loop-j decreases-loop-j loop-j-init root_child_accepted-requires (λ c. search rules) returns-then-not-root_child_accepted (λ c. search rules) (λ c. search rules) loop-j-preserved
    (λ c. search rules) returns)
