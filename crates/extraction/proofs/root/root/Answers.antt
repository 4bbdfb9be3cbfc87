-- The root's vector is worked out in a local list and then copied.
use Rattle.std.proofs.Common.{◌≡◌, ◌≤◌, ◌*◌, List, ℤ, ℕ, sym, ap, ◌∙◌, length, drop, length-drop, arith}
use lib.Seq.{length-take-le}
use Rattle.protocol.specs.declared.Settings.{Settings}
use Rattle.protocol.specs.Settings.{size, cells}
use Rattle.protocol.specs.Tree.{root_vector}
use Rattle.protocol.proofs.Inputs.{valid-settings}
use Rattle.extraction.specs.Nodes.{vector_room, Extractable}
use Rattle.extraction.proofs.Workspace.{kept_long, copied, stored, root-room, root_at}
use Rattle.extraction.proofs.root.root.Goals as goal

-- the room for a vector, where the numbers of cells are so many
room : (S : Settings) (E : List ℕ) (finals : List ℤ) → Extractable S E finals → (n : ℕ) → n ≡ cells S → n ≤ vector_room
room S E finals x n e = omega (arith, e, root-room S E finals x)

pub overflow_mul-end : goal.overflow_mul-end
overflow_mul-end c = omega (arith, room _ _ _ c.requires.extractable c.cells-cells.result (c.cells-cells.ensures (valid-settings c.args.settings c.requires.extractable.valid)))

pub slice_bounds-ws-end : goal.slice_bounds-ws-end
slice_bounds-ws-end c = omega (arith, c.workspace-ws.ensures, room _ _ _ c.requires.extractable c.cells-cells.result (c.cells-cells.ensures (valid-settings c.args.settings c.requires.extractable.valid)))

pub slice_bounds-node-end : goal.slice_bounds-node-end
slice_bounds-node-end c = sym (length-take-le _ _ (omega (arith, c.workspace-ws.ensures, room _ _ _ c.requires.extractable c.cells-cells.result (c.cells-cells.ensures (valid-settings c.args.settings c.requires.extractable.valid)))))

pub node-requires-clause-at_node : goal.node-requires-clause-at_node
node-requires-clause-at_node c =
    let ok = valid-settings c.args.settings c.requires.extractable.valid in (
      root_at c.args.settings c.args.challenges.now c.args.leaves.now c.requires.extractable _ _ c.workspace-ws.result (c.nodes-first.ensures.0 ok) (c.cells-cells.ensures ok) c.workspace-ws.ensures,
      omega arith,
    )

pub offset_bounds-ws-cells : goal.offset_bounds-ws-cells
offset_bounds-ws-cells c = omega (arith, room _ _ _ c.requires.extractable c.cells-cells.result (c.cells-cells.ensures (valid-settings c.args.settings c.requires.extractable.valid)))

pub slice_bounds-store-end : goal.slice_bounds-store-end
slice_bounds-store-end c =
    let fits = room _ _ _ c.requires.extractable c.cells-cells.result (c.cells-cells.ensures (valid-settings c.args.settings c.requires.extractable.valid)) in
    let lent : length c.node.new.ws ≡ 2 * c.cells-cells.result = c.node.auto.ws ∙ length-take-le _ c.workspace-ws.result (omega (arith, fits, c.workspace-ws.ensures)) in
    omega (arith, fits, kept_long c.cells-cells.result c.node.new.ws c.workspace-ws.result fits lent c.workspace-ws.ensures)

pub store-requires : goal.store-requires
store-requires c =
    let ok = valid-settings c.args.settings c.requires.extractable.valid in
    let n = c.cells-cells.result in
    let fits = room _ _ _ c.requires.extractable n (c.cells-cells.ensures ok) in
    let lent : length c.node.new.ws ≡ 2 * n = c.node.auto.ws ∙ length-take-le _ c.workspace-ws.result (omega (arith, fits, c.workspace-ws.ensures)) in
    let w : length c.args.w.now ≡ n = c.requires.w_len ∙ sym (c.cells-cells.ensures ok) in
    let half : length (drop n c.node.new.ws) ≡ n = length-drop n c.node.new.ws ∙ omega (arith, lent) in
    (omega (arith, ap length (copied n c.node.new.ws c.workspace-ws.result fits lent c.workspace-ws.ensures), half), omega (arith, w))

pub returns : goal.returns
unfolding root_vector cells size
returns c =
    let ok = valid-settings c.args.settings c.requires.extractable.valid in
    let n = c.cells-cells.result in
    let fits = room _ _ _ c.requires.extractable n (c.cells-cells.ensures ok) in
    let lent : length c.node.new.ws ≡ 2 * n = c.node.auto.ws ∙ length-take-le _ c.workspace-ws.result (omega (arith, fits, c.workspace-ws.ensures)) in
    let w : length c.args.w.now ≡ n = c.requires.w_len ∙ sym (c.cells-cells.ensures ok) in
    let half : length (drop n c.node.new.ws) ≡ n = length-drop n c.node.new.ws ∙ omega (arith, lent) in
    c.store.ensures
    ∙ stored n _ (drop n c.node.new.ws) c.args.w.now (copied n c.node.new.ws c.workspace-ws.result fits lent c.workspace-ws.ensures) half w
    ∙ ap (λ m. drop m c.node.new.ws) (c.cells-cells.ensures ok)
    ∙ c.node.ensures
