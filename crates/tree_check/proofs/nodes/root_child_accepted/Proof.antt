use mathlib.Core.Path.{◌≡◌, sym, subst, ◌∙◌}
use Prim.Native.Nat.{ℕ, ◌*◌, ◌≤◌}
use native.Mathlib.Omega.{arith}
use lib.ListN.{length, take}
use lib.Seq.{length-take-le}
use mathlib.Core.List.{List}
use Rattle.protocol.specs.Settings.{cells}
use Rattle.protocol.specs.Tree.{child, challenge, nodes}
use Rattle.protocol.proofs.Inputs.{settings-valid}
use Rattle.protocol.proofs.Places.{AtNode, at_root, at-child}
use Rattle.sizes.proofs.Limits.{degree_most}
use Rattle.tree_check.specs.Nodes.{RootFolded, tree_row}
use Rattle.tree_check.proofs.Checks.{round-inside}
use Rattle.tree_check.proofs.Root.{root_child}
use borrow.Author.Rules.{rules}
use Rattle.tree_check.proofs.nodes.root_child_accepted.Statement.{statement}
use Rattle.tree_check.proofs.nodes.root_child_accepted.Tie as tie

-- the root, as if its key stood in the second half of a workspace
root : (s : tie.Start) (first : ℕ) → first ≡ nodes s.args.settings → AtNode s.args.settings s.args.settings.depth 0 first (2 * cells s.args.settings)
root s first is = at_root s.args.settings first (2 * cells s.args.settings) is (λ _. 2 * cells s.args.settings)

wide : (s : tie.Start) → s.args.settings.degree ≤ 128
wide s = degree_most s.args.settings (settings-valid s.args.settings s.requires.0.allowed)

claim_to-requires : tie.Need-claim_to-requires
claim_to-requires c κs =
    let s = c in
    let S = s.args.settings in
    (round-inside S S.depth 0 (nodes S) (2 * cells S) _ _ (root s.before.before.before.before.before (nodes S) (λ _. nodes S)) s.requires.0 s.requires.1.up, s.requires.2, omega (arith, wide s.before.before.before.before.before))

-- the workspace after the fold, and the part of it that the child gets
module _ (c : tie.After-subtree_accepted-arg-1) where
  abbrev s : tie.Start
  s = c.before.before.before.before.before.before.before.before.before.before.before.before.before.before.before.before

  abbrev key : List ℕ
  key = s.args.key.now

  abbrev ws : List ℕ
  ws = c.fold_root.new.ws

  lent : length (take (length key) ws) ≡ length key
  lent = length-take-le (length key) ws (omega (arith, c.fold_root.auto.ws, s.requires.1.room))

slice_bounds-subtree_accepted-end-3 : tie.Need-slice_bounds-subtree_accepted-end-3
slice_bounds-subtree_accepted-end-3 c = sym (lent c)

subtree_accepted-requires : tie.Need-subtree_accepted-requires
unfolding child
subtree_accepted-requires b κs =
    let g = s b in
    let S = g.args.settings in
    let first = b.nodes-first in (
      (g.requires.0, omega (arith, wide g, b.claim_to.auto.claim)),
      at-child S S.depth 0 first.result (2 * cells S) (root g first.result (first.ensures.0 g.requires.0.allowed)) g.requires.1.up g.args.j _ _ g.requires.2
          (λ _. child 0 g.args.j) (omega (arith, lent b, g.requires.1.key_long)),
    )

returns : tie.Need-returns
returns c = λ z.
    let b = c in
    let g = s b.before.before.before in
    let a = g.args in
    let S = a.settings in
    let E = a.challenges.now in
    let turn = b.challenge in
    let folded : RootFolded S (challenge E 0 a.j) (key b.before.before.before) (ws b.before.before.before) = subst (λ e. RootFolded S e (key b.before.before.before) (ws b.before.before.before)) turn.ensures
    (b.fold_root.ensures z.1) in
    c.subtree_accepted.ensures (record { rounds_below = z.0; key_below = folded.below })
    ∙ root_child S (tree_row S a.rounds.now) E a.leaves.now a.j (key b.before.before.before) (ws b.before.before.before) _ g.requires.1.up folded
    (b.claim_to.ensures z.0)

pub root_child_accepted_spec : {M : Type 1} → statement M
root_child_accepted_spec =
    tie.close
    (tie.spec (λ c. search rules) claim_to-requires (λ c κs. search rules) (λ c κs. search rules) (λ c κs. search rules) (λ c. search rules) (λ c. search rules) (λ c. search rules)
    (λ c. search rules) (λ c. search rules) slice_bounds-subtree_accepted-end-3 subtree_accepted-requires (λ c. search rules) returns)
