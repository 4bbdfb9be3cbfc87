use Rattle.std.proofs.Common.{◌≡◌, sym, ap, ◌∙◌, Bool, true, ◌&&◌, ℕ, ℤ, List, ◌*◌, ◌^◌, ◌<◌, ◌≤◌, arith}
use native.Mathlib.Nat as Nat
use Rattle.protocol.specs.declared.Settings.{Settings}
use Rattle.protocol.specs.Basic.{every}
use Rattle.protocol.specs.Layout.{leaves}
use Rattle.protocol.specs.Settings.{settings_refusal, cells}
use Rattle.protocol.specs.Tree.{nodes}
use Rattle.protocol.specs.TreeCheck.{node_holds, tree_accepted}
use Rattle.protocol.proofs.Inputs.{settings-valid}
use Rattle.protocol.proofs.Places.{at_root}
use Rattle.protocol.proofs.Refusals.{and_fails_left}
use Rattle.sizes.proofs.Limits.{degree-inside}
use Rattle.tree_check.specs.Nodes.{RootFolding, tree_row, child_accepted}
use Rattle.tree_check.proofs.Checks.{round-inside}
use Rattle.tree_check.proofs.Root.{root_half, root_most, root_leaf, root_tests}
use Rattle.tree_check.proofs.nodes.root_accepted.Goals as goal

-- a workspace that the root's key can be folded in
folding : (S : Settings) (key space : ℕ) → settings_refusal S ≡ 0 → key ≡ cells S → 0 < S.depth → 3 * key ≤ 2 * space → RootFolding S key space
folding S key space ok long up room = record { allowed = ok; up = up; key_long = long; room = omega (arith, root_half S up, long) }

-- where the node holds, its children's tests decide
children : (S : Settings) (rounds E : List ℕ) (finals : List ℤ) (C key : List ℕ) → 0 < S.depth → (h : Bool) → h ≡ node_holds S rounds 0 C → h ≡ true
    → (b : Bool) → b ≡ every 3 (child_accepted S rounds E finals S.depth 0 key) → b ≡ tree_accepted S rounds E finals S.depth 0 0 C key
children S rounds E finals C key up h e t b is =
    is
    ∙ sym (ap (λ b. b && every 3 (child_accepted S rounds E finals S.depth 0 key)) (sym e ∙ t))
    ∙ root_tests S rounds E finals C key up

pub leaf_accepted-requires : goal.leaf_accepted-requires
unfolding leaves
leaf_accepted-requires c =
    let S = c.args.settings in
    let T = c.requires.0 in (
      T.allowed,
      omega (arith, T.finals_long, ap (λ l. 3 ^ l * S.degree) c.if-settings-eq0.true, Nat.one-mul S.degree),
      c.requires.2,
      omega (arith, degree-inside S (settings-valid S T.allowed), c.requires.1),
    )

pub returns-then-settings-eq0 : goal.returns-then-settings-eq0
returns-then-settings-eq0 c = λ g.
    let a = c.args in
    c.leaf_accepted.ensures g.1 ∙ root_leaf a.settings (tree_row a.settings a.rounds.now) a.challenges.now a.leaves.now a.commitment.now a.key.now c.if-settings-eq0.true

pub node_holds-requires : goal.node_holds-requires
node_holds-requires c =
    let S = c.args.settings in
    (round-inside S S.depth 0 (nodes S) (2 * cells S) _ _ (at_root S (nodes S) (2 * cells S) (λ _. nodes S) (λ _. 2 * cells S)) c.requires.0 (omega arith), c.requires.2)

pub returns-then-not-node_holds : goal.returns-then-not-node_holds
returns-then-not-node_holds c = λ g.
    let a = c.args in
    sym (and_fails_left _ _ (sym c.node_holds.ensures ∙ c.if-not-node_holds.true))
    ∙ root_tests a.settings (tree_row a.settings a.rounds.now) a.challenges.now a.leaves.now a.commitment.now a.key.now (omega arith)

pub root_children_accepted-requires : goal.root_children_accepted-requires
root_children_accepted-requires c = (c.requires.0, folding c.args.settings _ _ c.requires.0.allowed c.requires.1 (omega arith) (omega arith))

pub returns-then-key-le-FEW : goal.returns-then-key-le-FEW
returns-then-key-le-FEW c = λ g.
    let a = c.args in
    children a.settings (tree_row a.settings a.rounds.now) a.challenges.now a.leaves.now a.commitment.now a.key.now (omega arith) _ c.node_holds.ensures c.if-not-node_holds.false _ (c.root_children_accepted.ensures g)

pub root_children_accepted-requires-2 : goal.root_children_accepted-requires-2
root_children_accepted-requires-2 c = (c.requires.0, folding c.args.settings _ _ c.requires.0.allowed c.requires.1 (omega arith) (omega (arith, root_most c.args.settings c.requires.0.allowed, c.requires.1)))

pub returns : goal.returns
returns c = λ g.
    let a = c.args in
    children a.settings (tree_row a.settings a.rounds.now) a.challenges.now a.leaves.now a.commitment.now a.key.now (omega arith) _ c.node_holds.ensures c.if-not-node_holds.false _ (c.root_children_accepted-2.ensures g)
