-- The test at a leaf, from an element that is a part of the tree's table; and that the parts that are read stand in the tables of a full tree.
use mathlib.Core.Path.{◌≡◌, refl, sym, ◌∙◌}
use mathlib.Core.List.{List}
use Prim.Native.Nat.{ℕ, ◌+◌, ◌*◌, ◌-◌, ◌<◌, ◌≤◌}
use native.Mathlib.Nat as Nat
use native.Mathlib.Omega.{arith}
use lib.IntN.{ℤ, pos}
use lib.ListN.{get_or}
use Rattle.protocol.specs.declared.Settings.{Settings}
use Rattle.protocol.specs.Element.{signed, residue, residue_at, signed_at, coefficients}
use Rattle.protocol.specs.Layout.{item_cells, item_of, tree_challenges}
use Rattle.protocol.specs.Transcript.{end_met}
use Rattle.protocol.specs.Tree.{nodes, leaves, leaf}
use Rattle.protocol.proofs.Inputs.{settings-valid}
use Rattle.protocol.proofs.Reading.{tabulate_at}
use Rattle.residues.proofs.Parts.{tail_at}
use Rattle.equations.proofs.Polynomials.{part}
pub use Rattle.equations.proofs.Polynomials.{part-long}
use Rattle.equations.specs.Items.{row_element}
use Rattle.equations.proofs.Items.{items-cells, table-element}
use Rattle.protocol.proofs.Agreement.{Same, end_same, first_same}
use Rattle.protocol.proofs.Numbering.{before, before-power}
use Rattle.protocol.proofs.Paths.{nodes-before}
use Rattle.protocol.proofs.Places as Places
use Rattle.protocol.proofs.Places.{AtNode}
use Rattle.tree_check.specs.Nodes.{tree_row, Tables, Round, leaf_met}

module _ (S : Settings) where
  open S use {degree as d, depth as L}

  module _ (finals : List ℤ) (j : ℕ) where
    leaf_same : Same d (signed (part (j * d) finals)) (signed (leaf S finals j))
    unfolding leaf coefficients signed signed_at
    leaf_same k l = tail_at (j * d) finals k (pos 0) ∙ sym (tabulate_at d (λ i. get_or finals (j * d + i) (pos 0)) (pos 0) k l)

    pub leaf-is : (claim folded : List ℕ) → end_met S claim (signed (part (j * d) finals)) (residue folded) ≡ leaf_met S finals j claim folded
    unfolding leaf_met
    leaf-is claim folded = end_same S leaf_same (first_same d folded) claim claim (λ _ _. refl)

  -- ---- the elements of a node, in the row's part of the rounds

  module _ (k n : ℕ) (rounds : List ℕ) (R : Round S k n) where
    pub node_same : (j : ℕ) → j < 3 → Same d (row_element S rounds (item_of k j)) (residue_at d (tree_row S rounds) (item_of k j))
    node_same j h i l = sym (table-element S (tree_challenges S) rounds (item_of k j) (omega (arith, R.branching)) i l)

  -- ---- a full tree's tables

  module _ (h k first space rounds finals : ℕ) (A : AtNode S h k first space) (T : Tables S rounds finals) where
    pub round-inside : 0 < h → Round S k rounds
    round-inside up = record {
      allowed = T.allowed;
      index = Places.node-most S h k first space A up (settings-valid S T.allowed).depth_most;
      branching = below-nodes;
      inside = omega (arith, T.rounds_long, items-cells S (tree_challenges S), Nat.mul-le-mul_right (item_cells S) fewer, Nat.add-mul (3 * k) 3 (item_cells S));
    }
      where
        below-nodes : k < nodes S
        below-nodes = omega (arith, Places.branching_node S h k first space A up)

        fewer : 3 * k + 3 ≤ 3 * nodes S
        fewer = omega (arith, below-nodes)

    pub leaf-inside : h ≡ 0 → (k - first) * d + d ≤ finals
    unfolding leaves before
    leaf-inside low = omega (arith, T.finals_long, Nat.mul-le-mul_right d few, Nat.add-mul (k - first) 1 d, Nat.one-mul d)
      where
        few : k - first + 1 ≤ leaves S
        few = omega (arith, A.first-is, nodes-before S, (Places.at_leaf S h k first space A low).from, (Places.at_leaf S h k first space A low).to, before-power L)
