-- The root of the check: its key stays where the caller has it, and is folded to a workspace of its own for each child.
use mathlib.Core.Path.{◌≡◌, refl, sym, ap, ◌∙◌, subst}
use mathlib.Core.Bool.{Bool, true, false, ◌&&◌}
use mathlib.Core.List.{List}
use Prim.Native.Nat.{ℕ, suc, ◌+◌, ◌*◌, ◌-◌, ◌^◌, ◌<◌, ◌≤◌}
use native.Mathlib.Nat as Nat
use native.Mathlib.Omega.{arith}
use lib.IntN.{ℤ}
use lib.ListN.{length, get_or, take, drop}
use lib.Seq.{get_or-drop}
use Rattle.protocol.specs.declared.Settings.{Settings}
use Rattle.protocol.specs.Basic.{every}
use Rattle.protocol.specs.Element.{width}
use Rattle.protocol.specs.Settings.{settings_refusal, size, cells}
use Rattle.protocol.specs.Opening.{half_left, fold_residues, fold_key}
use Rattle.protocol.specs.Tree.{child, challenge, nodes}
use Rattle.protocol.specs.TreeCheck.{claim_to, node_holds, leaf_accepted, tree_accepted}
use Rattle.protocol.proofs.Agreement.{Alike, key-alike}
use Rattle.protocol.proofs.Inputs.{settings-valid}
use Rattle.protocol.proofs.Places.{at_root, twice-cells}
use Rattle.protocol.proofs.TreeKeys.{tree-alike}
use Rattle.sizes.proofs.Limits.{cells_most_lem}
use Rattle.residues.specs.Lists.{spliced}
use Rattle.residues.proofs.Splice.{spliced-length, spliced-inside}
use Rattle.folds.specs.Folds.{Foldable, fold_down}
use Rattle.tree_check.specs.Nodes.{Folding, RootFolding, RootFolded, Reduced, leaf_met, child_accepted}
use Rattle.tree_check.proofs.Descent.{node-tests}
use Rattle.tree_check.proofs.Workspace as Workspace

module _ (S : Settings) where
  open S use {degree as d, depth as L, modulus as q}

  -- ---- the fold, n being the elements of a half

  module _ (e n : ℕ) (key z : List ℕ) (P : RootFolding S (length key) (length z)) (is : n ≡ half_left S 0) where
    folding : Folding S L (2 * (2 ^ L * d))
    folding = record { allowed = P.allowed; up = P.up; height = Nat.le_refl L; space_is = refl }

    half : n ≡ half_left S (L - L)
    half = is ∙ ap (half_left S) (sym (Nat.sub_self L))

    pub half-power : n ≡ 2 ^ (L - 1)
    half-power = Workspace.half-power S L _ folding half

    pub half-few : n * d ≤ 2 ^ 14
    half-few = omega (arith, Workspace.cells-few S L _ folding half)

    key-cells : length key ≡ n * d + n * d
    unfolding cells size
    key-cells = omega (arith, P.key_long, Workspace.key-cells S L _ folding half)

    pub copy-room : n * d + length key ≤ length z
    copy-room = rw half-power P.room

    -- the key copied behind its first third
    abbrev W : List ℕ
    W = spliced (λ k. get_or key k 0) (n * d) (length key) z

    at : (k : ℕ) → k < length key → get_or W (n * d + k) 0 ≡ get_or key k 0
    at = spliced-inside (λ k. get_or key k 0) (n * d) (length key) z (omega (arith, copy-room))

    long : length W ≡ length z
    long = spliced-length (λ k. get_or key k 0) (n * d) (length key) z (omega (arith, copy-room)) copy-room

    pub root_foldable : Reduced S key → Foldable q d n (n * d) (n * d) W
    root_foldable below = Workspace.foldable S L _ folding half (n * d) W (Nat.le_refl (n * d)) (record {
      long = omega (arith, long, copy-room, key-cells);
      each = λ k l. subst (λ x. x < q) (sym (at k (omega (arith, key-cells)))) (below k);
    })

    pub root-folded : (U : List ℕ) → U ≡ fold_down q d n e (n * d) (n * d) W → RootFolded S e key U
    unfolding fold_key
    root-folded U u =
        let room : n * d ≤ length W = omega (arith, long, copy-room) in
        let pq : 0 < q = omega (arith, (settings-valid S P.allowed).modulus_least) in
        let part : drop (2 ^ (L - 1) * d) (take (length key) U) ≡ drop (n * d) (take (n * d + n * d) (fold_down q d n e (n * d) (n * d) W)) =
        λ i. drop (sym half-power i * d) (take (key-cells i) (u i)) in
        record {
          alike = λ k l.
              ap (λ s. get_or s k 0) part
              ∙ Workspace.child-alike q d n e (n * d) W room k (rw half-power l)
              ∙ ap (λ m. get_or (fold_residues q d m e (drop (n * d) W)) k 0) is
              ∙ key-alike S (L - 1) 0 e (drop (n * d) W) key (omega (arith, P.up)) same k l;
          below = λ k. subst (λ s. get_or s k 0 < q) (sym part) (Workspace.child-below q d n e (n * d) W room pq k);
        }
      where
        all : 2 ^ suc (L - 1) * d ≡ length key
        all = omega (arith, ap (λ m. m * d) (Nat.two-pow-succ (L - 1)), Nat.add-mul (2 ^ (L - 1)) (2 ^ (L - 1)) d, ap (λ m. m * d) half-power, key-cells)

        same : Alike (2 ^ suc (L - 1) * d) (drop (n * d) W) key
        same k l = get_or-drop (n * d) W k 0 ∙ at k (omega (arith, all))

  -- the root's key is folded behind room for half of it; the workspace has room for the largest key
  pub root_half : 0 < L → 2 ^ (L - 1) * d + 2 ^ (L - 1) * d ≡ cells S
  unfolding cells size
  root_half up = sym (twice-cells S L up)

  pub root_most : settings_refusal S ≡ 0 → cells S ≤ 2 * 128 * width
  root_most allowed = omega (arith, cells_most_lem S (settings-valid S allowed))

  -- ---- the tests

  module _ (rounds E : List ℕ) (finals : List ℤ) where
    abbrev below_root : List ℕ → ℕ → Bool
    below_root = child_accepted S rounds E finals L 0

    pub root_child : (j : ℕ) (key U claim : List ℕ) → 0 < L → RootFolded S (challenge E 0 j) key U → Alike d claim (claim_to S rounds E 0 j)
        → tree_accepted S rounds E finals (L - 1) (1 + j) (L - (L - 1)) claim (drop (2 ^ (L - 1) * d) (take (length key) U)) ≡ below_root key j
    unfolding child_accepted child
    root_child j key U claim up folded alike =
        let deeper : L - (L - 1) ≡ suc (L - L) = omega arith in
        ap (λ t. tree_accepted S rounds E finals (L - 1) (1 + j) t claim (drop (2 ^ (L - 1) * d) (take (length key) U))) deeper
        ∙ tree-alike S rounds E finals (L - 1) (1 + j) (suc (L - L)) claim (claim_to S rounds E 0 j) _ _ (omega arith) alike
        (subst (λ t. Alike (2 ^ (L - 1) * d) (drop (2 ^ (L - 1) * d) (take (length key) U)) (fold_key S t (challenge E 0 j) key)) (sym (Nat.sub_self L)) folded.alike)

    three : (f : ℕ → Bool) → (f 0 && (f 1 && f 2)) ≡ every 3 f
    unfolding every
    three f = go (f 0) (f 1)
      where
        go : (a b : Bool) → (a && (b && f 2)) ≡ (((true && a) && b) && f 2)
        go true true = refl
        go true false = refl
        go false b = refl

    module _ (C key : List ℕ) where
      pub root_leaf : L ≡ 0 → leaf_met S finals 0 C key ≡ tree_accepted S rounds E finals L 0 0 C key
      unfolding leaf_met tree_accepted leaf_accepted
      root_leaf low =
          ap (λ j. leaf_met S finals j C key) (sym (Nat.zero-sub (nodes S)))
          ∙ ap (λ h. tree_accepted S rounds E finals h 0 0 C key) (sym low)

      pub root_tests : 0 < L → (node_holds S rounds 0 C && every 3 (below_root key)) ≡ tree_accepted S rounds E finals L 0 0 C key
      root_tests up =
          ap (λ b. node_holds S rounds 0 C && b) (sym (three (below_root key)))
          ∙ sym (node-tests S rounds E finals L 0 (nodes S) (2 * cells S) (at_root S (nodes S) (2 * cells S) refl refl) up C key)
          ∙ ap (λ t. tree_accepted S rounds E finals L 0 t C key) (Nat.sub_self L)
