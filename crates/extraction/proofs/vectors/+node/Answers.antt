use Rattle.std.proofs.Common.{◌≡◌, ◌*◌, ◌≤◌, ◌∙◌, sym, refl, subst, add-one, length, arith, rules}
use Rattle.protocol.specs.Element.{signed_zeros}
use Rattle.protocol.specs.Layout.{width}
use Rattle.extraction.proofs.Nodes as L
use Rattle.extraction.proofs.Branches as N
use Rattle.extraction.proofs.vectors.+node.Goals as goal

pub overflow_sub-k : goal.overflow_sub-k
overflow_sub-k t c = L.leaf-number c.requires.extractable c.requires.at_node.0 (omega arith)

pub leaf_vector-requires : goal.leaf_vector-requires
leaf_vector-requires t c =
    let tree = c.requires.extractable in
    (L.small tree, L.leaf-inside tree c.requires.at_node.0 (omega arith), L.leaf-space tree c.requires.at_node.0 (omega arith))

pub returns-then-h-eq0 : goal.returns-then-h-eq0
returns-then-h-eq0 t c = L.leaf-is c.requires.extractable c.requires.at_node.0 (omega arith) _ c.leaf_vector.ensures

pub loop-j-init : goal.loop-j-init
unfolding signed_zeros
loop-j-init t c = (refl, λ b. N.stage_zero b _ refl (search rules))

pub child_of-requires : goal.child_of-requires
child_of-requires t c =
    let b : N.Branch c.args.settings c.args.challenges.now c.args.leaves.now c.args.h c.args.k c.args.first (length c.args.ws.now) = record { tree = c.requires.extractable; place = c.requires.at_node.0; up = omega arith } in
    omega (arith, N.challenges_inside b)

pub node-requires : goal.node-requires
node-requires t c =
    let b : N.Branch c.args.settings c.args.challenges.now c.args.leaves.now c.args.h c.args.k c.args.first (length c.args.ws.now) = record { tree = c.requires.extractable; place = c.requires.at_node.0; up = omega arith } in
    let room : 2 * width ≤ length c.loop-j.room = omega (arith, c.loop-j.invariant.0, c.requires.at_node.1) in
    (omega arith, (b.tree, (N.child_place b c.loop-j.j (omega arith) c.child_of.ensures (c.loop-j.invariant.1 b), room)))

pub add_branch-requires : goal.add_branch-requires
add_branch-requires t c =
    let b : N.Branch c.args.settings c.args.challenges.now c.args.leaves.now c.args.h c.args.k c.args.first (length c.args.ws.now) = record { tree = c.requires.extractable; place = c.requires.at_node.0; up = omega arith } in (
      omega (arith, L.small b.tree, c.loop-j.invariant.0, c.requires.at_node.1, c.node.auto.room),
      N.stage_branching b c.loop-j.j (omega arith) _ (c.loop-j.invariant.1 b) c.child_of.ensures c.node.auto.ws c.node.ensures,
    )

pub loop-j-preserved : goal.loop-j-preserved
loop-j-preserved t c =
    let l = c.loop-j in (
      c.add_branch.auto.room ∙ c.node.auto.room ∙ l.invariant.0,
      λ b. subst (λ i. N.Stage b i c.add_branch.new.ws) (sym (add-one l.j))
          (N.stage_next b l.j (omega arith) _ (l.invariant.1 b) c.child_of.ensures c.node.auto.ws c.node.ensures c.add_branch.ensures c.add_branch.auto.ws),
    )

pub returns : goal.returns
returns t c =
    let b : N.Branch c.args.settings c.args.challenges.now c.args.leaves.now c.args.h c.args.k c.args.first (length c.args.ws.now) = record { tree = c.requires.extractable; place = c.requires.at_node.0; up = omega arith } in
    let all : c.loop-j.j ≡ 3 = omega arith in
    N.stage_whole b (subst (λ i. N.Stage b i c.loop-j.ws) all (c.loop-j.invariant.1 b))
