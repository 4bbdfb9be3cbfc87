-- The path to a leaf: it leads from the root to the leaf, one child after the other, and every node is on some path.
use mathlib.Core.Path.{◌≡◌, sym, ap, ◌∙◌, subst}
use mathlib.Core.List.{List}
use Prim.Native.Nat.{ℕ, zero, suc, ◌+◌, ◌*◌, ◌-◌, ◌^◌, ◌<◌, ◌≤◌}
use native.Mathlib.Nat as Nat
use native.Mathlib.Omega.{arith}
use lib.ListN.{get_or}
use Rattle.protocol.specs.declared.Settings.{Settings}
use Rattle.protocol.specs.Tree.{child, parent, place, above, challenge, challenge_to, nodes, leaves, on_path, path_challenges}
use Rattle.protocol.specs.Opening.{half_left}
use Rattle.protocol.proofs.Reading.{tabulate_at}
use Rattle.protocol.proofs.OpeningLaws.{half_left-power}
use Rattle.protocol.proofs.Numbering.{child-parent, before, before-power, before-le, before-add, AtDepth, parent-depth, below, above-below}

module _ (S : Settings) where
  abbrev L : ℕ
  L = S.depth

  pub nodes-before : nodes S ≡ before L
  unfolding nodes
  nodes-before = omega (arith, before-power L)

  -- a node that is less deep than L branches
  pub depth-branching : (t h k : ℕ) → suc (h + t) ≡ L → AtDepth t k → k < nodes S
  depth-branching t h k e a = omega (arith, nodes-before, a.to, before-le (suc t) h, ap before (Nat.add-suc h t ∙ e))

  -- a node of depth L is a leaf
  pub depth-leaf : (k : ℕ) → AtDepth L k → k - nodes S < leaves S
  unfolding leaves before
  depth-leaf k a = omega (arith, nodes-before, before-power L, a.to)

  -- at a node that is h + 1 steps above the leaves, a half of what is left has 2^h elements
  pub half_left-height : (h t : ℕ) → suc (h + t) ≡ L → half_left S t ≡ 2 ^ h
  half_left-height h t e = half_left-power S t (omega arith) ∙ ap (λ n. 2 ^ n) down
    where
      down : L - suc t ≡ h
      down = omega arith

  -- leaf j is the j-th of the nodes that are L steps below the root
  pub below_root : (j : ℕ) → below L 0 j ≡ nodes S + j
  unfolding below
  below_root j = omega (arith, nodes-before, Nat.mul-zero (3 ^ L))

  pub path-root : (j : ℕ) → j < leaves S → on_path S j 0 ≡ 0
  unfolding on_path leaves
  path-root j l = ap (λ h. above h (nodes S + j)) (Nat.sub-zero L) ∙ ap (above L) (sym (below_root j)) ∙ above-below L 0 j l

  pub path-leaf : (j : ℕ) → on_path S j L ≡ nodes S + j
  unfolding on_path above
  path-leaf j = ap (λ h. above h (nodes S + j)) (Nat.sub_self L)

  pub path_parent : (j t : ℕ) → t < L → parent (on_path S j (suc t)) ≡ on_path S j t
  unfolding on_path above
  path_parent j t l = let e : suc (L - suc t) ≡ L - t = omega arith in ap (λ h. above h (nodes S + j)) e

  pub path-challenge : (E : List ℕ) (j t : ℕ) → t < L → get_or (path_challenges S E j) t 0 ≡ challenge E (on_path S j t) (place (on_path S j (suc t)))
  unfolding path_challenges challenge_to
  path-challenge E j t l = tabulate_at L _ 0 t l ∙ ap (λ k. challenge E k (place (on_path S j (suc t)))) (path_parent j t l)

  -- after t steps it meets a node of depth t
  pub path-depth : (j : ℕ) → j < leaves S → (t h : ℕ) → h + t ≡ L → AtDepth t (on_path S j t)
  unfolding before leaves
  path-depth j l t zero e =
      let f : L ≡ t = omega arith in
      subst (λ s. AtDepth s (on_path S j s)) f
      (subst (AtDepth L) (sym (path-leaf j)) (record { from = omega (arith, nodes-before); to = omega (arith, nodes-before, before-power L) }))
  path-depth j l t (suc h) e = subst (AtDepth t) (path_parent j t (omega arith)) (parent-depth t _ (path-depth j l (suc t) h (omega arith)))

  pub path-child : (j t : ℕ) → j < leaves S → t < L → child (on_path S j t) (place (on_path S j (suc t))) ≡ on_path S j (suc t)
  unfolding before
  path-child j t lj lt = ap (λ k. child k (place (on_path S j (suc t)))) (sym (path_parent j t lt))
      ∙ child-parent (on_path S j (suc t)) (omega (arith, (path-depth j lj (suc t) (L - suc t) (omega arith)).from))

  -- every node of depth t, with every way down from it, is on the path to some leaf
  module _ (t h k i : ℕ) (e : h + t ≡ L) (a : AtDepth t k) (l : i < 3 ^ h) where
    pub node-leaf : nodes S + (below h k i - nodes S) ≡ below h k i
    unfolding below
    node-leaf = omega (arith, nodes-before, before-add h t, ap before e, Nat.mul-le-mul_left (3 ^ h) a.from)

    pub node-leaf_small : below h k i - nodes S < leaves S
    unfolding below leaves before
    node-leaf_small =
        let m : k ≤ 3 * before t = omega (arith, a.to) in
        omega (arith, nodes-before, before-power h, before-power L, before-add h t, ap before e, Nat.mul-le-mul_left (3 ^ h) m)

    pub node-met : on_path S (below h k i - nodes S) t ≡ k
    unfolding on_path
    node-met = (λ z. above (height z) (node-leaf z)) ∙ above-below h k i l
      where
        height : L - t ≡ h
        height = omega arith
