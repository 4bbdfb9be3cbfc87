-- Exactness: where every leaf is a fold of one m, of whole numbers of any size, the root's vector is 4^L·m. At a node it is 4^h times what is left of m there.
use mathlib.Core.Path.{◌≡◌, refl, sym, ap, ◌∙◌, subst}
use mathlib.Core.List.{List, map}
use Prim.Native.Nat.{ℕ, zero, suc, ◌+◌, ◌*◌, ◌-◌, ◌^◌, ◌<◌, ◌≤◌}
use native.Mathlib.Nat as Nat
use native.Mathlib.Omega.{arith}
use lib.ListN.{length, get_or, length-map, get_or-map}
use lib.Pow as Pow
use lib.IntN.{ℤ, pos, ◌*ℤ◌}
use Rattle.algebra.specs.Ring as R
use Rattle.algebra.specs.Ring.{CommRing}
use Rattle.algebra.specs.Integers.{ℤ-ring, fromℤ, ofℕ}
use Rattle.algebra.specs.Cancel.{cancels_ℤ}
use Rattle.algebra.specs.Negacyclic.{negacyclic}
use Rattle.protocol.specs.declared.Settings.{Settings}
use Rattle.protocol.specs.Element.{times, signed, signed_at}
use Rattle.protocol.specs.Settings.{size, cells}
use Rattle.protocol.specs.Opening.{fold_message, message_after, final_element}
use Rattle.protocol.specs.Tree.{child, challenge, place, nodes, leaves, on_path, path_challenges, leaf, fold_to, root_vector}
use Rattle.protocol.specs.Judge.{slack}
use Rattle.protocol.proofs.Reading.{flat-own, flat_ext}
use Rattle.claims.proofs.Readings.{read_ext, read-times, readℤ, readℤ-inj}
use Rattle.claims.proofs.Tables.{signed-folds}
use Rattle.protocol.proofs.Numbering.{AtDepth, root-depth, child-depth}
use Rattle.protocol.proofs.Paths.{depth-branching, half_left-height, below_root, path-challenge}
use Rattle.protocol.proofs.Walk.{state_on, Walk, Visits, visits_walk}
use Rattle.claims.proofs.Weights.{Triple, signed-coefficients, balanced}
use Rattle.claims.proofs.Combination.{four-power, Balanced, unfold_low, unfold_high}
use Rattle.claims.proofs.Vectors.{halves, vec, vec-leaf, vec-low, vec-high, e^, μ₁, μ₂, μ₃, vector-length}

module _ (S : Settings) (E : List ℕ) (finals : List ℤ) where
  open S use {degree as d, depth as L}

  -- ---- folds of m down the tree

  -- folds done, and what they leave of m
  abbrev State : Type 0
  State = ℕ × List ℤ

  abbrev hand : ℕ → ℕ → State → State
  hand k j x = (suc x.0, fold_message S x.0 (challenge E k j) x.1)

  abbrev Leaf : ℕ → State → Type 0
  Leaf k x = final_element S x.1 ≡ leaf S finals (k - nodes S)

  -- every leaf below node k is the h folds of what is left of m there
  abbrev Folded : ℕ → ℕ → State → Type 0
  Folded = Walk hand (λ _ _. Unit {0}) Leaf

  path-message : (m : List ℤ) (j t : ℕ) → t ≤ L → state_on hand L (nodes S + j) (0, m) t ≡ (t, message_after S (path_challenges S E j) t m)
  unfolding state_on message_after on_path
  path-message m j zero l = refl
  path-message m j (suc t) l =
      ap (hand (on_path S j t) (place (on_path S j (suc t)))) (path-message m j t (omega arith))
      ∙ λ z. (suc t, fold_message S t (sym (path-challenge S E j t l) z) (message_after S (path_challenges S E j) t m))

  leaves-folded : (m : List ℤ) → ((j : ℕ) → j < leaves S → fold_to S E j m ≡ leaf S finals j) → Folded L 0 (0, m)
  unfolding leaves fold_to
  leaves-folded m e = visits_walk hand _ Leaf L 0 (0, m) (λ j l. subst (λ n. Visits hand (λ _ _. Unit {0}) Leaf L n (0, m)) (sym (below_root S j))
      (record { at_node = λ _ _. tt; at_leaf = subst (Leaf (nodes S + j)) (sym (path-message m j L (Nat.le_refl L))) (e j l ∙ ap (leaf S finals) (sym (Nat.add-sub_cancel_left (nodes S) j))) }))

  -- ---- in the ring over the integers

  module _ (p : 0 < S.degree) where
    open negacyclic ℤ-ring S.degree p use {C, add as ◌⊕◌, mul as ◌⊗◌}

    infixl 60 ◌⊕◌
    infixl 70 ◌⊗◌
    abbrev RZ : CommRing
    RZ = negacyclic ℤ-ring S.degree p

    abbrev at : List ℤ → ℕ → C
    at m i = readℤ d p (signed_at d m i)

    abbrev v : ℕ → ℕ → ℕ → C
    v = vec S E finals ℤ-ring p

    leaf-exact : (k : ℕ) (x : State) → Leaf k x → (i : ℕ) → i < 2 ^ 0 → v 0 k i ≡ ofℕ RZ (4 ^ 0) ⊗ at x.1 i
    unfolding final_element
    leaf-exact k x e i l =
        (let z : i ≡ 0 = omega arith in ap (v 0 k) z)
        ∙ vec-leaf S E finals ℤ-ring p k
        ∙ ap (λ l. readℤ d p (signed l)) (sym e)
        ∙ read_ext ℤ-ring d p (signed-coefficients d _)
        ∙ (let z : 0 ≡ i = omega arith in ap (at x.1) z)
        ∙ sym (ap (λ y. y ⊗ at x.1 i) (fromℤ RZ).on_one ∙ R.one-mul RZ _)

    -- a branching node whose children are 4^h times what is left of m there
    module _ (h k : ℕ) (x : State) (e : suc (h + x.0) ≡ L) (D : ℕ) (power : 2 ^ D ≡ d) (T : Triple d (challenge E k 0) (challenge E k 1) (challenge E k 2))
        (c : (j : ℕ) → j < 3 → (i : ℕ) → i < 2 ^ h → v h (child k j) i ≡ ofℕ RZ (4 ^ h) ⊗ at (hand k j x).1 i) where
      child-exact : (j : ℕ) → j < 3 → (i : ℕ) → i < 2 ^ h → v h (child k j) i ≡ ofℕ RZ (4 ^ h) ⊗ (at x.1 i ⊕ e^ S E finals ℤ-ring p k j ⊗ at x.1 (2 ^ h + i))
      unfolding fold_message
      child-exact j lj i l = c j lj i l ∙ ap (λ y. ofℕ RZ (4 ^ h) ⊗ y) (rw (half_left-height S h x.0 e) (signed-folds ℤ-ring d p (2 ^ h) (challenge E k j) x.1 i l))

      B : Balanced RZ (μ₁ S E finals ℤ-ring p k) (μ₂ S E finals ℤ-ring p k) (μ₃ S E finals ℤ-ring p k) (e^ S E finals ℤ-ring p k 0) (e^ S E finals ℤ-ring p k 1) (e^ S E finals ℤ-ring p k 2)
      B = balanced ℤ-ring d p cancels_ℤ D power T

      node-exact : (i : ℕ) → i < 2 ^ suc h → v (suc h) k i ≡ ofℕ RZ (4 ^ suc h) ⊗ at x.1 i
      node-exact i l = halves (λ i. v (suc h) k i ≡ ofℕ RZ (4 ^ suc h) ⊗ at x.1 i) (2 ^ h)
          (λ i l. vec-low S E finals ℤ-ring p h k i l
          ∙ unfold_low RZ B _ _ _ _ _ _ (child-exact 0 (omega arith) i l) (child-exact 1 (omega arith) i l) (child-exact 2 (omega arith) i l)
          ∙ ap (λ y. y ⊗ at x.1 i) (sym (four-power RZ h)))
          (λ i l. vec-high S E finals ℤ-ring p h k i l
          ∙ unfold_high RZ B _ _ _ _ _ _ (child-exact 0 (omega arith) i l) (child-exact 1 (omega arith) i l) (child-exact 2 (omega arith) i l)
          ∙ ap (λ y. y ⊗ at x.1 (2 ^ h + i)) (sym (four-power RZ h)))
          i (omega (arith, Nat.two-pow-succ h))

    module _ (D : ℕ) (power : 2 ^ D ≡ d) (triples : (k : ℕ) → k < nodes S → Triple d (challenge E k 0) (challenge E k 1) (challenge E k 2)) where
      tree-exact : (h k : ℕ) (x : State) → h + x.0 ≡ L → AtDepth x.0 k → Folded h k x → (i : ℕ) → i < 2 ^ h → v h k i ≡ ofℕ RZ (4 ^ h) ⊗ at x.1 i
      tree-exact zero k x e a w i l = leaf-exact k x w i l
      tree-exact (suc h) k x e a w i l =
          let m : suc (h + x.0) ≡ L = omega arith in
          let n : h + suc x.0 ≡ L = omega arith in
          node-exact h k x m D power (triples k (depth-branching S x.0 h k m a)) (λ j lj. tree-exact h (child k j) (hand k j x) n (child-depth x.0 k j lj a) (w.1 j lj)) i l

      -- element by element
      root-exact : (m : List ℤ) → ((j : ℕ) → j < leaves S → fold_to S E j m ≡ leaf S finals j) → (i k : ℕ) → i < 2 ^ L → k < d
          → signed_at d (root_vector S E finals) i k ≡ pos (4 ^ L) *ℤ signed_at d m i k
      unfolding root_vector times
      root-exact m e i k li lk = readℤ-inj d p (signed_at d (root_vector S E finals) i) (times (pos (4 ^ L)) (signed_at d m i))
          (tree-exact L 0 (0, m) (Nat.add-zero L) root-depth (leaves-folded m e) i li ∙ sym (read-times ℤ-ring d p (pos (4 ^ L)) (signed_at d m i))) k lk

-- every leaf is a fold of m, which may have any size: the root's vector is 4^L·m
pub exact : (S : Settings) (D : ℕ) → 2 ^ D ≡ S.degree → (E : List ℕ) (finals m : List ℤ)
    → ((k : ℕ) → k < nodes S → Triple S.degree (challenge E k 0) (challenge E k 1) (challenge E k 2))
    → length m ≡ cells S → ((j : ℕ) → j < leaves S → fold_to S E j m ≡ leaf S finals j)
    → root_vector S E finals ≡ map (λ x. pos (slack S) *ℤ x) m
unfolding signed_at slack cells size root_vector
exact S D power E finals m triples n e =
    sym (flat-own d (2 ^ L) (root_vector S E finals) (pos 0) p (vector-length S E finals L 0))
    ∙ flat_ext d (2 ^ L) p
    (λ i k li lk. root-exact S E finals p D power triples m e i k li lk ∙ sym (ap (get_or (map scaled m) (i * d + k)) (ap pos (sym (Nat.mul-zero (4 ^ L)))) ∙ get_or-map scaled m (i * d + k) (pos 0)))
    ∙ flat-own d (2 ^ L) (map scaled m) (pos 0) p (length-map m scaled ∙ n)
  where
    d : ℕ
    d = S.degree

    L : ℕ
    L = S.depth

    p : 0 < S.degree
    p = omega (arith, Pow.pow_pos D)

    scaled : ℤ → ℤ
    scaled x = pos (4 ^ S.depth) *ℤ x
