-- The place of a node in a tree, and in a list that a recursion down the tree hands on: a node's own numbers are the second half of its part, and its children work in the first half.
use mathlib.Core.Path.{◌≡◌, sym, ap, ◌∙◌, subst}
use Prim.Native.Nat.{ℕ, suc, ◌+◌, ◌*◌, ◌-◌, ◌/◌, ◌^◌, ◌<◌, ◌≤◌}
use native.Mathlib.Nat as Nat
use native.Mathlib.Omega.{arith}
use Rattle.protocol.specs.declared.Settings.{Settings}
use Rattle.protocol.specs.Settings.{size, cells}
use Rattle.protocol.specs.Tree.{child, nodes}
pub use Rattle.protocol.specs.Nodes.{AtNode}
use Rattle.protocol.specs.Nodes.{AtDepth, before}
use Rattle.protocol.proofs.Numbering.{before-le, child-depth, root-depth}
use Rattle.protocol.proofs.Paths.{nodes-before, depth-branching}

module _ (S : Settings) where
  open S use {degree as d, depth as L}

  nodes_most_lem : L ≤ 8 → nodes S ≤ 3280
  unfolding before
  nodes_most_lem l = omega (arith, nodes-before S, before-le L (8 - L), ap before up)
    where
      up : 8 - L + L ≡ 8
      up = omega arith

  pub at_root : (first space : ℕ) → first ≡ nodes S → space ≡ 2 * cells S → AtNode S L 0 first space
  unfolding cells size
  at_root first space f s = record { height = Nat.le_refl L; at_depth = subst (λ t. AtDepth t 0) (sym (Nat.sub_self L)) root-depth; first-is = f; space_is = s }

  -- a node has twice as many numbers as each of its children
  pub twice-cells : (h : ℕ) → 0 < h → 2 ^ h * d ≡ 2 ^ (h - 1) * d + 2 ^ (h - 1) * d
  twice-cells h up =
      let up_one : h ≡ suc (h - 1) = omega arith in
      ap (λ x. 2 ^ x * d) up_one ∙ ap (λ x. x * d) (Nat.two-pow-succ (h - 1)) ∙ Nat.add-mul (2 ^ (h - 1)) (2 ^ (h - 1)) d

  module _ (h k first space : ℕ) (A : AtNode S h k first space) where
    pub half_is : space / 2 ≡ 2 ^ h * d
    half_is = omega (arith, A.space_is)

    -- a leaf
    module _ (low : h ≡ 0) where
      pub at_leaf : AtDepth L k
      at_leaf = subst (λ t. AtDepth t k) whole-depth A.at_depth
        where
          whole-depth : L - h ≡ L
          whole-depth = omega arith

      pub leaf-number : first ≤ k
      leaf-number = omega (arith, A.first-is, nodes-before S, at_leaf.from)

      pub leaf-cells : 2 ^ h * d ≡ d
      leaf-cells = ap (λ x. 2 ^ x * d) low ∙ Nat.one-mul d

    -- a node above its children
    module _ (up : 0 < h) where
      pub height_is : suc (h - 1 + (L - h)) ≡ L
      height_is = omega (arith, A.height)

      pub branching_node : k < nodes S
      branching_node = depth-branching S (L - h) (h - 1) k height_is A.at_depth

      pub node-most : L ≤ 8 → k ≤ 3280
      node-most l = omega (arith, nodes_most_lem l, branching_node)

      pub deeper : suc (L - h) ≡ L - (h - 1)
      deeper = omega (arith, A.height)

      -- where child j works
      pub at-child : (j x lent : ℕ) → j < 3 → x ≡ child k j → lent ≡ space / 2 → AtNode S (h - 1) x first lent
      at-child j x lent l is e = record {
        height = omega (arith, A.height);
        at_depth = subst (λ t. AtDepth t x) deeper (subst (λ y. AtDepth (suc (L - h)) y) (sym is) (child-depth (L - h) k j l A.at_depth));
        first-is = A.first-is;
        space_is = e ∙ half_is ∙ twice-cells h up ∙ sym (Nat.two-mul (2 ^ (h - 1) * d));
      }
