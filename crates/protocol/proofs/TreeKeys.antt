-- The check of a tree reads of a claim its d places, and of a folded key only the elements that are left: what else a shared workspace holds changes nothing.
use mathlib.Core.Path.{◌≡◌, refl, ap₂}
use mathlib.Core.Bool.{◌&&◌}
use mathlib.Core.List.{List}
use Prim.Native.Nat.{ℕ, zero, suc, ◌+◌, ◌*◌, ◌^◌}
use native.Mathlib.Omega.{arith}
use lib.IntN.{ℤ}
use Rattle.protocol.specs.declared.Settings.{Settings}
use Rattle.protocol.specs.Opening.{fold_key}
use Rattle.protocol.specs.Tree.{child, challenge}
use Rattle.protocol.specs.TreeCheck.{node_element, claim_to, node_holds, leaf_accepted, tree_accepted}
use Rattle.protocol.proofs.Agreement.{round_same, end_same, Alike, alike_same, key-alike}

module _ (S : Settings) (rounds E : List ℕ) (finals : List ℤ) where
  abbrev L : ℕ
  L = S.depth

  node_alike : (k : ℕ) (claim claim' : List ℕ) → Alike S.degree claim claim' → node_holds S rounds k claim ≡ node_holds S rounds k claim'
  unfolding node_holds
  node_alike k claim claim' c = round_same S {c1 = node_element S rounds k 1} (λ i l. refl) (λ i l. refl) (λ i l. refl) claim claim' c

  leaf-alike : (k : ℕ) (claim claim' key key' : List ℕ) → Alike S.degree claim claim' → Alike (2 ^ 0 * S.degree) key key' → leaf_accepted S finals k claim key ≡ leaf_accepted S finals k claim' key'
  unfolding leaf_accepted
  leaf-alike k claim claim' key key' c s = end_same S (λ _ _. refl) (alike_same S.degree (2 ^ 0) key key' s 0 (omega arith)) claim claim' c

  pub tree-alike : (h k t : ℕ) (claim claim' key key' : List ℕ) → h + t ≡ L → Alike S.degree claim claim' → Alike (2 ^ h * S.degree) key key'
      → tree_accepted S rounds E finals h k t claim key ≡ tree_accepted S rounds E finals h k t claim' key'
  unfolding tree_accepted
  tree-alike zero k t claim claim' key key' e c s = leaf-alike k claim claim' key key' c s
  tree-alike (suc h) k t claim claim' key key' e c s =
      let down : (j : ℕ) → Alike (2 ^ h * S.degree) (fold_key S t (challenge E k j) key) (fold_key S t (challenge E k j) key') = λ j. key-alike S h t (challenge E k j) key key' (omega arith) s in
      let f : h + suc t ≡ L = omega arith in
      ap₂ ◌&&◌ (node_alike k claim claim' c)
      (ap₂ ◌&&◌ (tree-alike h (child k 0) (suc t) (claim_to S rounds E k 0) (claim_to S rounds E k 0) _ _ f (λ i l. refl) (down 0))
      (ap₂ ◌&&◌ (tree-alike h (child k 1) (suc t) (claim_to S rounds E k 1) (claim_to S rounds E k 1) _ _ f (λ i l. refl) (down 1))
      (tree-alike h (child k 2) (suc t) (claim_to S rounds E k 2) (claim_to S rounds E k 2) _ _ f (λ i l. refl) (down 2))))
