-- Extraction: where every path of a tree is accepted, the root's vector opens 4^L times the commitment of every row. It is one vector, since challenges and leaves are those of every row.
-- By recursion over the height h of a node, with t = L − h rounds done: 4^h·claim = half^t·⟨v, G⟩, v being the node's vector and G what is left of the folded key.
use mathlib.Core.Path.{◌≡◌, refl, sym, ap, ap₂, ◌∙◌}
use mathlib.Core.Bool.{true}
use mathlib.Core.List.{List}
use Prim.Native.Nat.{ℕ, zero, suc, ◌+◌, ◌-◌, ◌%◌, ◌^◌, ◌<◌}
use native.Mathlib.Nat as Nat
use native.Mathlib.Omega.{arith}
use borrow.Author.Tests.{eqb-true}
use lib.Dec.{eqb}
use lib.ListN.{get_or}
use lib.Pow as Pow
use lib.IntN.{ℤ, pos}
use Rattle.algebra.specs.Ring as R
use Rattle.algebra.specs.Ring.{CommRing, two}
use Rattle.algebra.specs.Integers.{fromℤ, ofℕ, ofℕ_two}
use Rattle.algebra.specs.Residues.{Zmod}
use Rattle.algebra.specs.Cancel.{cancels_Zmod}
use Rattle.algebra.specs.Negacyclic.{negacyclic}
use Rattle.algebra.specs.Inner as I
use Rattle.protocol.specs.declared.Settings.{Settings}
use Rattle.protocol.specs.Element.{Element, product, times, signed, signed_at, residue, residue_at, value_row}
use Rattle.protocol.specs.Layout.{tree_challenges}
use Rattle.protocol.specs.Settings.{size, half}
use Rattle.protocol.specs.Opening.{inner, fold_key}
use Rattle.protocol.specs.Transcript.{doubled, round_holds, final_bounded, ending, end_holds, end_met}
use Rattle.protocol.specs.Tree.{child, challenge, nodes, leaf, root_vector}
use Rattle.protocol.specs.Rows.{key_row, row_items}
use Rattle.protocol.specs.Judge.{slack, scaled_commitment, combination, Opens}
use Rattle.protocol.specs.Calls.{every_path}
use Rattle.protocol.proofs.Tests.{and_split, every_at}
use Rattle.protocol.specs.TreeCheck.{node_element, claim_to, node_holds, leaf_accepted, tree_accepted}
use Rattle.claims.proofs.Readings.{read-times, read-product, read-inner, readq-entries, readq-inj}
use Rattle.claims.proofs.Tables.{residue-folds}
use Rattle.claims.proofs.Checks.{Q, read_s, X^S, two_half, half-power-suc, read-next_claim, round-equation, end-equation}
use Rattle.protocol.proofs.Numbering.{AtDepth, root-depth, child-depth}
use Rattle.protocol.proofs.Paths.{depth-branching, half_left-height}
use Rattle.claims.proofs.Weights.{Triple, balanced}
use Rattle.claims.proofs.Combination.{four-power, inner_mixed, climb}
use Rattle.claims.proofs.Vectors.{vec, vec-leaf, vec-low, vec-high, e^, μ₁, μ₂, μ₃}
use Rattle.protocol.proofs.TreeCheck.{tree-split, every-path-tree}

module _ (S : Settings) (p : 0 < S.degree) (pq : 0 < S.modulus) (rounds E : List ℕ) (finals : List ℤ) where
  open S use {degree as d, depth as L, modulus as q}
  open negacyclic (Zmod S.modulus pq) S.degree p use {C, 1#, add as ◌⊕◌, mul as ◌⊗◌}

  infixl 60 ◌⊕◌
  infixl 70 ◌⊗◌
  abbrev K : CommRing
  K = Zmod q pq

  abbrev RQ : CommRing
  RQ = Q S p pq

  abbrev rd : Element → C
  rd = read_s S p pq

  abbrev v : ℕ → ℕ → ℕ → C
  v = vec S E finals K p

  abbrev G : List ℕ → ℕ → C
  G key i = rd (residue_at d key i)

  -- what is claimed of a node
  abbrev Opened : ℕ → ℕ → ℕ → List ℕ → List ℕ → Type 0
  Opened h k t claim key = ofℕ RQ (4 ^ h) ⊗ rd (residue claim) ≡ ofℕ RQ (half S ^ t) ⊗ I.inner RQ (2 ^ h) (v h k) (G key)

  -- ---- a leaf

  leaf-end : (k : ℕ) (claim key : List ℕ) → leaf_accepted S finals k claim key ≡ true → rd (residue claim) ≡ ofℕ RQ (half S ^ L) ⊗ (rd (signed (leaf S finals (k - nodes S))) ⊗ G key 0)
  unfolding leaf_accepted end_met end_holds
  leaf-end k claim key a =
      end-equation S p pq claim f (residue_at d key 0)
      (λ i l. eqb-true _ _ (every_at d (λ i. eqb (get_or claim i 0) (ending S f (residue_at d key 0) i)) (and_split {a = final_bounded S f} a).1 i l))
    where
      f : Element
      f = signed (leaf S finals (k - nodes S))

  leaf-opened : (k t : ℕ) (claim key : List ℕ) → t ≡ L → leaf_accepted S finals k claim key ≡ true → Opened 0 k t claim key
  leaf-opened k t claim key e a =
      ap (λ x. x ⊗ rd (residue claim)) (fromℤ RQ).on_one ∙ R.one-mul RQ _ ∙ leaf-end k claim key a
      ∙ (λ i. ofℕ RQ (half S ^ sym e i) ⊗ (sym (vec-leaf S E finals K p k) i ⊗ G key 0))
      ∙ ap (λ x. ofℕ RQ (half S ^ t) ⊗ x) (sym (I.inner-one RQ (v 0 k) (G key)))

  -- ---- a branching node

  module _ (h k t : ℕ) (e : suc (h + t) ≡ L) (key : List ℕ) where
    child-key : (j i : ℕ) → i < 2 ^ h → G (fold_key S t (challenge E k j) key) i ≡ G key i ⊕ e^ S E finals K p k j ⊗ G key (2 ^ h + i)
    unfolding fold_key
    child-key j i l = rw (half_left-height S h t e) (residue-folds q pq d p (2 ^ h) (challenge E k j) key i l)

    -- ⟨v, G⟩ with the folded keys of the children
    abbrev branch : ℕ → C
    branch j = I.inner RQ (2 ^ h) (v h (child k j)) (G (fold_key S t (challenge E k j) key))

    branch_is : (j : ℕ) → I.inner RQ (2 ^ h) (v h (child k j)) (λ i. G key i ⊕ e^ S E finals K p k j ⊗ G key (2 ^ h + i)) ≡ branch j
    branch_is j = I.inner-ext RQ (2 ^ h) (λ _ _. refl) (λ i l. sym (child-key j i l))

    whole-inner : I.inner RQ (2 ^ suc h) (v (suc h) k) (G key) ≡ μ₁ S E finals K p k ⊗ branch 0 ⊕ μ₂ S E finals K p k ⊗ branch 1 ⊕ μ₃ S E finals K p k ⊗ branch 2
    whole-inner =
        ap (λ n. I.inner RQ n (v (suc h) k) (G key)) (Nat.two-pow-succ h)
        ∙ I.inner-split RQ (2 ^ h) (2 ^ h) _ _
        ∙ ap₂ ◌⊕◌ (I.inner-ext RQ (2 ^ h) (vec-low S E finals K p h k) (λ _ _. refl)) (I.inner-ext RQ (2 ^ h) (vec-high S E finals K p h k) (λ _ _. refl))
        ∙ inner_mixed RQ (2 ^ h) _ _ _ _ _ _ _ _ _ _ _
        ∙ (λ i. μ₁ S E finals K p k ⊗ branch_is 0 i ⊕ μ₂ S E finals K p k ⊗ branch_is 1 i ⊕ μ₃ S E finals K p k ⊗ branch_is 2 i)

    -- the children's equations, in the shape of `climb`
    child-opened : (j : ℕ) → Opened h (child k j) (suc t) (claim_to S rounds E k j) (fold_key S t (challenge E k j) key)
        → ofℕ RQ (4 ^ h) ⊗
        (rd (node_element S rounds k 0) ⊕ X^S S p pq (challenge E k j) ⊗ rd (node_element S rounds k 1) ⊕ X^S S p pq (challenge E k j) ⊗ (X^S S p pq (challenge E k j) ⊗ rd (node_element S rounds k 2)))
        ≡ ofℕ RQ (half S ^ t) ⊗ ofℕ RQ (half S) ⊗ branch j
    unfolding claim_to
    child-opened j o = ap (λ x. ofℕ RQ (4 ^ h) ⊗ x) (sym (read-next_claim S p pq (challenge E k j) _ _ _)) ∙ o ∙ ap (λ x. x ⊗ branch j) (half-power-suc S p pq t)

    node-round : (claim : List ℕ) → node_holds S rounds k claim ≡ true → two RQ ⊗ (rd (node_element S rounds k 0) ⊕ rd (node_element S rounds k 2)) ≡ rd (residue claim)
    unfolding node_holds round_holds
    node-round claim a = ap (λ x. x ⊗ (rd (node_element S rounds k 0) ⊕ rd (node_element S rounds k 2))) (sym (ofℕ_two RQ))
        ∙ round-equation S p pq claim (node_element S rounds k 0) (node_element S rounds k 2)
        (λ i l. eqb-true _ _ (every_at d (λ i. eqb (doubled S (node_element S rounds k 0) (node_element S rounds k 2) i) (get_or claim i 0)) a i l))

    node-opened : (D : ℕ) → 2 ^ D ≡ d → q % 2 ≡ 1 → Triple d (challenge E k 0) (challenge E k 1) (challenge E k 2) → (claim : List ℕ) → node_holds S rounds k claim ≡ true
        → ((j : ℕ) → j < 3 → Opened h (child k j) (suc t) (claim_to S rounds E k j) (fold_key S t (challenge E k j) key)) → Opened (suc h) k t claim key
    node-opened D power odd T claim a o =
        ap (λ x. x ⊗ rd (residue claim)) (four-power RQ h)
        ∙ climb RQ (balanced K d p (cancels_Zmod q pq odd) D power T) _ _ _ _ _ _ _ _ _ _ (node-round claim a)
        (child-opened 0 (o 0 (omega arith))) (child-opened 1 (o 1 (omega arith))) (child-opened 2 (o 2 (omega arith)))
        (ap (λ x. x ⊗ ofℕ RQ (half S)) (sym (ofℕ_two RQ)) ∙ two_half S p pq odd)
        ∙ ap (λ x. ofℕ RQ (half S ^ t) ⊗ x) (sym whole-inner)

  -- ---- a tree

  module _ (D : ℕ) (power : 2 ^ D ≡ d) (odd : q % 2 ≡ 1) (triples : (k : ℕ) → k < nodes S → Triple d (challenge E k 0) (challenge E k 1) (challenge E k 2)) where
    tree-opened : (h k t : ℕ) (claim key : List ℕ) → h + t ≡ L → AtDepth t k → tree_accepted S rounds E finals h k t claim key ≡ true → Opened h k t claim key
    tree-opened zero k t claim key e at a = leaf-opened k t claim key (omega arith) (unfold tree_accepted in a)
    tree-opened (suc h) k t claim key e at a =
        let f = tree-split S rounds E finals h k (t, claim, key) a in
        let l : suc (h + t) ≡ L = omega arith in
        let m : h + suc t ≡ L = omega arith in
        node-opened h k t l key D power odd (triples k (depth-branching S t h k l at)) claim f.0
        (λ j lj. tree-opened h (child k j) (suc t) (claim_to S rounds E k j) (fold_key S t (challenge E k j) key) m (child-depth t k j lj at) (f.1 j lj))

    root_opened : (C key : List ℕ) → tree_accepted S rounds E finals L 0 0 C key ≡ true
        → rd (times (pos (4 ^ L)) (residue C)) ≡ rd (inner d (2 ^ L) (signed_at d (root_vector S E finals)) (residue_at d key))
    unfolding root_vector
    root_opened C key a =
        read-times K d p (pos (4 ^ L)) (residue C)
        ∙ tree-opened L 0 0 C key (Nat.add-zero L) root-depth a
        ∙ ap (λ x. x ⊗ I.inner RQ (2 ^ L) (v L 0) (G key)) (ap (ofℕ RQ) (Nat.pow-zero (half S)) ∙ (fromℤ RQ).on_one)
        ∙ R.one-mul RQ _
        ∙ sym (read-inner K d p (2 ^ L) _ _)

-- every path of a tree is accepted in every row: its root's vector opens 4^L times every row's commitment
pub extracts : (S : Settings) (D : ℕ) → 2 ^ D ≡ S.degree → S.modulus % 2 ≡ 1 → (C key rounds E : List ℕ) (finals : List ℤ)
    → ((k : ℕ) → k < nodes S → Triple S.degree (challenge E k 0) (challenge E k 1) (challenge E k 2))
    → every_path S C key rounds E finals ≡ true → (r : ℕ) → r < S.rows → Opens S (key_row S key r) (value_row C r) (slack S) (root_vector S E finals)
unfolding scaled_commitment combination slack size
extracts S D power odd C key rounds E finals triples a r h =
    let p : 0 < S.degree = omega (arith, Pow.pow_pos D) in
    let pq : 0 < S.modulus = omega arith in
    readq-inj S.modulus pq S.degree p _ _ (root_opened S p pq (items r) E finals D power odd triples (value_row C r) (key_row S key r)
    (every_at S.rows (λ r. tree_accepted S (items r) E finals S.depth 0 0 (value_row C r) (key_row S key r)) (sym (every-path-tree S C key rounds E finals) ∙ a) r h))
  where
    items : ℕ → List ℕ
    items r = row_items S (tree_challenges S) rounds r
