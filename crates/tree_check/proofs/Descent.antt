-- From a node of the check to its children: the claim and the key that a child gets are the ones that the check hands down.
use mathlib.Core.Path.{◌≡◌, sym, ap, ◌∙◌, subst}
use mathlib.Core.Bool.{◌&&◌}
use mathlib.Core.List.{List, ◌++◌}
use Prim.Native.Nat.{ℕ, suc, ◌+◌, ◌*◌, ◌-◌, ◌^◌, ◌<◌, ◌≤◌}
use native.Mathlib.Omega.{arith}
use lib.IntN.{ℤ}
use lib.ListN.{length, get_or, take, drop}
use lib.Seq.{length-take-le, drop_at}
use Rattle.protocol.specs.declared.Settings.{Settings}
use Rattle.protocol.specs.Opening.{fold_residues, fold_key}
use Rattle.protocol.specs.Tree.{child, challenge}
use Rattle.folds.specs.Folds.{fold_down}
use Rattle.residues.proofs.Parts.{tail_all}
use Rattle.protocol.specs.TreeCheck.{claim_to, node_holds, leaf_accepted, tree_accepted}
use Rattle.protocol.proofs.Agreement.{Alike}
use Rattle.protocol.proofs.Paths.{half_left-height}
use Rattle.protocol.proofs.TreeKeys.{tree-alike}
use Rattle.protocol.proofs.Places.{AtNode, leaf-cells, twice-cells, height_is, deeper}
use Rattle.tree_check.specs.Nodes.{Reduced, leaf_met, child_accepted}
use Rattle.tree_check.proofs.Workspace.{fold_kept, child-below, child-alike}

module _ (S : Settings) (rounds E : List ℕ) (finals : List ℤ) (h k first space : ℕ) (A : AtNode S h k first space) where
  open S use {degree as d, depth as L, modulus as q}

  pub leaf-tests : h ≡ 0 → (claim W : List ℕ) → leaf_met S finals (k - first) claim (take (length W - d) (drop d W)) ≡ tree_accepted S rounds E finals h k (L - h) claim (drop (2 ^ h * d) W)
  unfolding leaf_met tree_accepted leaf_accepted
  leaf-tests low claim W =
      (λ i. leaf_met S finals (k - A.first-is i) claim ((tail_all d W ∙ ap (λ x. drop x W) (sym (leaf-cells S h k first space A low))) i))
      ∙ ap (λ x. tree_accepted S rounds E finals x k (L - h) claim (drop (2 ^ h * d) W)) (sym low)

  pub leaf-below : h ≡ 0 → (W : List ℕ) → Reduced S (drop (2 ^ h * d) W) → Reduced S (take (length W - d) (drop d W))
  leaf-below low W = subst (Reduced S) (sym (tail_all d W ∙ ap (λ x. drop x W) (sym (leaf-cells S h k first space A low))))

  module _ (up : 0 < h) where
    pub node-tests : (claim key : List ℕ) → tree_accepted S rounds E finals h k (L - h) claim key
        ≡ (node_holds S rounds k claim && (child_accepted S rounds E finals h k key 0 && (child_accepted S rounds E finals h k key 1 && child_accepted S rounds E finals h k key 2)))
    unfolding tree_accepted child_accepted
    node-tests claim key = let up_one : h ≡ suc (h - 1) = omega arith in ap (λ x. tree_accepted S rounds E finals x k (L - h) claim key) up_one

    abbrev n : ℕ
    n = 2 ^ (h - 1)

    -- the workspace W before a child's turn, U after the fold
    module _ (j half : ℕ) (W U : List ℕ) (long : length W ≡ space) (is_half : half ≡ 2 ^ h * d) (is-U : U ≡ fold_down q d n (challenge E k j) (2 ^ h * d) (n * d) W) where
      twice : 2 ^ h * d ≡ n * d + n * d
      twice = twice-cells S h up

      room : n * d ≤ length W
      room = omega (arith, A.space_is, twice)

      folded-is : U ≡ fold_down q d n (challenge E k j) (n * d + n * d) (n * d) W
      folded-is = is-U ∙ ap (λ x. fold_down q d n (challenge E k j) x (n * d) W) twice

      key_is : fold_residues q d n (challenge E k j) (drop (n * d + n * d) W) ≡ fold_key S (L - h) (challenge E k j) (drop (2 ^ h * d) W)
      unfolding fold_key
      key_is = λ i. fold_residues q d (sym (half_left-height S (h - 1) (L - h) (height_is S h k first space A up)) i) (challenge E k j) (drop (sym twice i) W)

      key-alike : Alike (n * d) (drop (n * d) (take half U)) (fold_key S (L - h) (challenge E k j) (drop (2 ^ h * d) W))
      key-alike i l =
          (λ x. get_or (drop (n * d) (take ((is_half ∙ twice) x) (folded-is x))) i 0)
          ∙ child-alike q d n (challenge E k j) (n * d + n * d) W room i l
          ∙ ap (λ s. get_or s i 0) key_is

      pub child-tests : (claim : List ℕ) → Alike d claim (claim_to S rounds E k j)
          → tree_accepted S rounds E finals (h - 1) (3 * k + 1 + j) (L - (h - 1)) claim (drop (n * d) (take half U)) ≡ child_accepted S rounds E finals h k (drop (2 ^ h * d) W) j
      unfolding child_accepted child
      child-tests claim alike =
          ap (λ t. tree_accepted S rounds E finals (h - 1) (child k j) t claim (drop (n * d) (take half U))) (sym (deeper S h k first space A up))
          ∙ tree-alike S rounds E finals (h - 1) (child k j) (suc (L - h)) claim (claim_to S rounds E k j) _ _ (omega (arith, A.height)) alike key-alike

      pub child-read : 0 < q → (i : ℕ) → get_or (drop (n * d) (take half U)) i 0 < q
      child-read p i = subst (λ l. get_or l i 0 < q) (sym (λ x. drop (n * d) (take ((is_half ∙ twice) x) (folded-is x)))) (child-below q d n (challenge E k j) (n * d + n * d) W room p i)

      -- the node's own key
      pub key-kept : (last : List ℕ) → length last ≡ length (take half U) → half ≤ length U → drop (2 ^ h * d) (last ++ drop half U) ≡ drop (2 ^ h * d) W
      key-kept last same inside =
          drop_at last (drop half U) (2 ^ h * d) (same ∙ length-take-le half U inside ∙ is_half)
          ∙ (λ i. drop ((is_half ∙ twice) i) (folded-is i))
          ∙ fold_kept q d n (challenge E k j) (n * d + n * d) W room
          ∙ ap (λ x. drop x W) (sym twice)
