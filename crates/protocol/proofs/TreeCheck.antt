-- The check node by node accepts a tree exactly when every path of it is accepted.
use mathlib.Core.Path.{◌≡◌, refl, sym, ap, ◌∙◌, subst}
use mathlib.Core.Bool.{Bool, true, ◌&&◌}
use mathlib.Core.List.{List}
use Prim.Native.Nat.{ℕ, zero, suc, ◌+◌, ◌*◌, ◌/◌, ◌%◌, ◌<◌, ◌≤◌}
use native.Mathlib.Nat as Nat
use native.Mathlib.Omega.{arith}
use lib.ListN.{get_or}
use lib.IntN.{ℤ, pos}
use Rattle.protocol.specs.declared.Settings.{Settings}
use Rattle.protocol.specs.Basic.{every}
use Rattle.protocol.specs.Element.{signed, residue_at, value_row}
use Rattle.protocol.specs.Layout.{tree_challenges}
use Rattle.protocol.specs.Opening.{fold_key, key_after}
use Rattle.protocol.specs.Transcript.{Transcript, next_claim, final_bounded, end_met, folded_key, element, claim_after, holds_at, closes, accepted}
use Rattle.protocol.specs.Rows.{key_row, row_items}
use Rattle.protocol.specs.Tree.{child, challenge, place, nodes, leaves, on_path, path_rounds, leaf, path, row_path}
use Rattle.protocol.specs.Calls.{every_path}
use Rattle.protocol.proofs.Tests.{and_split, and_intro, same_test, every_at, every-intro, every_swap}
use Rattle.protocol.proofs.Reading.{flat_at}
use Rattle.protocol.specs.TreeCheck.{node_element, claim_to, node_holds, leaf_accepted, tree_accepted}
use Rattle.protocol.proofs.Agreement.{Same, claim_same, round_same, every_ext}
use Rattle.protocol.proofs.Paths.{below_root, path-challenge}
use Rattle.protocol.proofs.Walk.{three, state_on, Walk, Visits, walk_visits, visits_walk}

four-split : (a b c d : Bool) → (a && (b && (c && d))) ≡ true → (a ≡ true) × (b ≡ true) × (c ≡ true) × (d ≡ true)
four-split a b c d t = let u = and_split {a = a} t in let v = and_split {a = b} u.1 in let w = and_split {a = c} v.1 in (u.0, v.0, w.0, w.1)

module _ (S : Settings) (rounds E : List ℕ) (finals : List ℤ) where
  abbrev L : ℕ
  L = S.depth

  -- rounds done, claim, folded key
  abbrev State : Type 0
  State = ℕ × List ℕ × List ℕ

  abbrev hand : ℕ → ℕ → State → State
  hand k j x = (suc x.0, claim_to S rounds E k j, fold_key S x.0 (challenge E k j) x.2)

  abbrev Node : ℕ → State → Type 0
  Node k x = node_holds S rounds k x.1 ≡ true

  abbrev Leaf : ℕ → State → Type 0
  Leaf k x = leaf_accepted S finals k x.1 x.2 ≡ true

  abbrev test : ℕ → ℕ → State → Bool
  test h k x = tree_accepted S rounds E finals h k x.0 x.1 x.2

  -- ---- as a walk

  -- what the check says of a branching node and of its children
  pub tree-split : (h k : ℕ) (x : State) → test (suc h) k x ≡ true → (node_holds S rounds k x.1 ≡ true) × ((j : ℕ) → j < 3 → test h (child k j) (hand k j x) ≡ true)
  unfolding tree_accepted
  tree-split h k x a =
      let f = four-split (node_holds S rounds k x.1) (test h (child k 0) (hand k 0 x)) (test h (child k 1) (hand k 1 x)) (test h (child k 2) (hand k 2 x)) a in
      (f.0, three (λ j. test h (child k j) (hand k j x) ≡ true) f.1 f.2 f.3)

  tree-walk : (h k : ℕ) (x : State) → test h k x ≡ true → Walk hand Node Leaf h k x
  tree-walk zero k x a = unfold tree_accepted in a
  tree-walk (suc h) k x a = let f = tree-split h k x a in (f.0, λ j l. tree-walk h (child k j) (hand k j x) (f.1 j l))

  walk-tree : (h k : ℕ) (x : State) → Walk hand Node Leaf h k x → test h k x ≡ true
  unfolding tree_accepted
  walk-tree zero k x w = w
  walk-tree (suc h) k x w = and_intro w.0
      (and_intro (walk-tree h (child k 0) (hand k 0 x) (w.1 0 (omega arith)))
      (and_intro (walk-tree h (child k 1) (hand k 1 x) (w.1 1 (omega arith))) (walk-tree h (child k 2) (hand k 2 x) (w.1 2 (omega arith)))))

  -- ---- as paths

  module _ (C key : List ℕ) (j : ℕ) where
    abbrev T : Transcript
    T = path S C rounds E finals j

    abbrev on : ℕ → ℕ
    on t = on_path S j t

    abbrev by : ℕ → ℕ
    by t = place (on_path S j (suc t))

    path-element : (t i : ℕ) → t < L → i < 3 → Same S.degree (element S T t i) (node_element S rounds (on t) i)
    unfolding path path_rounds element node_element residue_at
    path-element t i lt li k lk = ap pos (flat_at S.degree (3 * L) _ 0 (3 * t + i) k (omega arith) lk ∙ λ z. get_or rounds ((3 * on (which z) + place' z) * S.degree + k) 0)
      where
        which : (3 * t + i) / 3 ≡ t
        which = omega arith

        place' : (3 * t + i) % 3 ≡ i
        place' = omega arith

    path-claim : (t : ℕ) → t < L → claim_after S T (suc t) ≡ claim_to S rounds E (on t) (by t)
    unfolding path claim_after claim_to
    path-claim t l =
        ap (λ e. next_claim S e (element S T t 0) (element S T t 1) (element S T t 2)) (path-challenge S E j t l)
        ∙ claim_same S (path-element t 0 l (omega arith)) (path-element t 1 l (omega arith)) (path-element t 2 l (omega arith)) (challenge E (on t) (by t))

    path-state : (t : ℕ) → t ≤ L → state_on hand L (nodes S + j) (0, C, key) t ≡ (t, claim_after S T t, key_after S T.challenges t key)
    unfolding state_on path claim_after key_after on_path
    path-state zero l = refl
    path-state (suc t) l =
        ap (hand (on t) (by t)) (path-state t (omega arith))
        ∙ λ z. (suc t, sym (path-claim t l) z, fold_key S t (sym (path-challenge S E j t l) z) (key_after S T.challenges t key))

    path-round : (t : ℕ) → t < L → holds_at S T t ≡ node_holds S rounds (on t) (claim_after S T t)
    unfolding holds_at node_holds
    path-round t l = round_same S (path-element t 0 l (omega arith)) (path-element t 1 l (omega arith)) (path-element t 2 l (omega arith)) _ _ (λ k m. refl)

    path-end : (final_bounded S (signed T.last) && closes S key T) ≡ leaf_accepted S finals (nodes S + j) (claim_after S T L) (key_after S T.challenges L key)
    unfolding path closes leaf_accepted end_met
    path-end =
        ap (λ i. end_met S (claim_after S T L) (signed (leaf S finals i)) (folded_key S key T.challenges))
        (sym (Nat.add-sub_cancel_left (nodes S) j))

    path-visits : accepted S key T ≡ true → Visits hand Node Leaf L (nodes S + j) (0, C, key)
    unfolding accepted on_path
    path-visits a =
        let u = and_split {a = every L (holds_at S T)} a in
        record {
          at_node = λ t l. subst (Node (on t)) (sym (path-state t (omega arith))) (sym (path-round t l) ∙ every_at L (holds_at S T) u.0 t l);
          at_leaf = subst (Leaf (nodes S + j)) (sym (path-state L (omega arith))) (sym path-end ∙ u.1);
        }

    visits_path : Visits hand Node Leaf L (nodes S + j) (0, C, key) → accepted S key T ≡ true
    unfolding accepted on_path
    visits_path v = and_intro
        (every-intro (λ t l. path-round t l ∙ subst (Node (on t)) (path-state t (omega arith)) (v.at_node t l)))
        (path-end ∙ subst (Leaf (nodes S + j)) (path-state L (omega arith)) v.at_leaf)

  -- in one row every path is accepted exactly when the check node by node accepts the root
  paths_tree : (C key : List ℕ) → every (leaves S) (λ j. accepted S key (path S C rounds E finals j)) ≡ tree_accepted S rounds E finals L 0 0 C key
  unfolding leaves
  paths_tree C key = same_test
      (λ a. walk-tree L 0 (0, C, key) (visits_walk hand Node Leaf L 0 (0, C, key) (λ j l.
      subst (λ n. Visits hand Node Leaf L n (0, C, key)) (sym (below_root S j)) (path-visits C key j (every_at _ (λ j. accepted S key (path S C rounds E finals j)) a j l)))))
      (λ b. every-intro (λ j l. visits_path C key j
      (subst (λ n. Visits hand Node Leaf L n (0, C, key)) (below_root S j) (walk_visits hand Node Leaf L 0 (0, C, key) (tree-walk L 0 (0, C, key) b) j l))))

-- 13: every path is accepted in every row exactly when the check node by node accepts the root in every row
pub every-path-tree : (S : Settings) (C key rounds E : List ℕ) (finals : List ℤ)
    → every_path S C key rounds E finals ≡ every S.rows (λ r. tree_accepted S (row_items S (tree_challenges S) rounds r) E finals S.depth 0 0 (value_row C r) (key_row S key r))
unfolding every_path row_path
every-path-tree S C key rounds E finals =
    every_swap (leaves S) S.rows (λ j r. accepted S (key_row S key r) (row_path S C rounds E finals r j))
    ∙ every_ext S.rows (λ r _. paths_tree S (row_items S (tree_challenges S) rounds r) E finals (value_row C r) (key_row S key r))
