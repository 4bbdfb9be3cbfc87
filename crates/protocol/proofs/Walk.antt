-- A walk down a tree that hands a state from node to node, against the paths to the leaves: what holds at every node of the walk holds along every path, and the other way round.
--
--   step k j x        the state that node k, whose own is x, hands to its child j
--   Node, Leaf        what is asked of a branching node, of a leaf, and its state
--   Walk h k x        it holds at node k with the state x, and at every node of the h steps below
--   state_on h n x t  the state after t of the h steps that lead down to node n, x being the first
--   Visits h n x      it holds along these steps
use mathlib.Core.Path.{◌≡◌, sym, ap, ◌∙◌, subst, subst₂}
use Prim.Native.Nat.{ℕ, zero, suc, ◌+◌, ◌*◌, ◌-◌, ◌^◌, ◌<◌}
use native.Mathlib.Nat as Nat
use native.Mathlib.Omega.{arith}
use Rattle.protocol.specs.Tree.{child, parent, place, above}
use Rattle.protocol.proofs.Numbering.{parent-child, place-child, before-power, below, below-zero, below-child, above-below, turn, turn_small}

-- what holds for the three children holds for each
pub three : (P : ℕ → Type 0) → P 0 → P 1 → P 2 → (j : ℕ) → j < 3 → P j
three P a b c zero l = a
three P a b c (suc zero) l = b
three P a b c (suc (suc zero)) l = c
three P a b c (suc (suc (suc j))) l = absurd (omega arith)

unfoldable pub state_on : {X : Type 0} → (ℕ → ℕ → X → X) → ℕ → ℕ → X → ℕ → X
state_on step h n x zero = x
state_on step h n x (suc t) = step (above (h - t) n) (place (above (h - suc t) n)) (state_on step h n x t)

module _ {X : Type 0} (step : ℕ → ℕ → X → X) where
  -- the first step, and then the others
  state-shift : (h n : ℕ) (x : X) (t : ℕ) → state_on step (suc h) n x (suc t) ≡ state_on step h n (step (above (suc h) n) (place (above h n)) x) t
  unfolding state_on
  state-shift h n x zero = let e : suc h - 0 ≡ suc h = omega arith in let f : suc h - 1 ≡ h = omega arith in λ i. step (above (e i) n) (place (above (f i) n)) x
  state-shift h n x (suc t) = λ i. step (above (Nat.suc-sub-suc h t i) n) (place (above (Nat.suc-sub-suc h (suc t) i) n)) (state-shift h n x t i)

  module _ (Node Leaf : ℕ → X → Type 0) where
    abbrev pub Walk : ℕ → ℕ → X → Type 0
    Walk zero k x = Leaf k x
    Walk (suc h) k x = Node k x × ((j : ℕ) → j < 3 → Walk h (child k j) (step k j x))

    pub record Visits (h n : ℕ) (x : X) : Type 0 where
      pub at_node : (t : ℕ) → t < h → Node (above (h - t) n) (state_on step h n x t)
      pub at_leaf : Leaf n (state_on step h n x h)

    -- the state that is handed on after the first of h + 1 steps to n
    abbrev handed : ℕ → ℕ → X → X
    handed h n x = step (above (suc h) n) (place (above h n)) x

    visits_first : (h n : ℕ) (x : X) → Visits (suc h) n x → Node (above (suc h) n) x
    unfolding state_on
    visits_first h n x v = subst (λ m. Node (above m n) x) (Nat.sub-zero (suc h)) (v.at_node 0 (omega arith))

    visits_rest : (h n : ℕ) (x : X) → Visits (suc h) n x → Visits h n (handed h n x)
    visits_rest h n x v = record {
      at_node = λ t l. subst₂ (λ m y. Node (above m n) y) (Nat.suc-sub-suc h t) (state-shift h n x t) (v.at_node (suc t) (omega arith));
      at_leaf = subst (Leaf n) (state-shift h n x h) v.at_leaf;
    }

    visits_more : (h n : ℕ) (x : X) → Node (above (suc h) n) x → Visits h n (handed h n x) → Visits (suc h) n x
    visits_more h n x f v = record { at_node = node; at_leaf = subst (Leaf n) (sym (state-shift h n x h)) v.at_leaf }
      where
        node : (t : ℕ) → t < suc h → Node (above (suc h - t) n) (state_on step (suc h) n x t)
        node zero l = unfold state_on in subst (λ m. Node (above m n) x) (sym (Nat.sub-zero (suc h))) f
        node (suc t) l = subst₂ (λ m y. Node (above m n) y) (sym (Nat.suc-sub-suc h t)) (sym (state-shift h n x t)) (v.at_node t (omega arith))

    -- the steps from node k to a node below its child j
    module _ (h k j i : ℕ) (lj : j < 3) (li : i < 3 ^ h) (x : X) where
      abbrev n : ℕ
      n = below h (child k j) i

      to_child : above h n ≡ child k j
      to_child = above-below h (child k j) i li

      to_parent : above (suc h) n ≡ k
      unfolding above
      to_parent = ap parent to_child ∙ parent-child k j lj

      to_handed : handed h n x ≡ step k j x
      to_handed = λ z. step (to_parent z) ((ap place to_child ∙ place-child k j lj) z) x

      visits_split : Visits (suc h) (below (suc h) k (j * 3 ^ h + i)) x → Node k x × Visits h n (step k j x)
      visits_split v =
          let w = subst (λ m. Visits (suc h) m x) (below-child h k j i) v in
          (subst (λ m. Node m x) to_parent (visits_first h n x w), subst (Visits h n) to_handed (visits_rest h n x w))

      visits_join : Node k x → Visits h n (step k j x) → Visits (suc h) (below (suc h) k (j * 3 ^ h + i)) x
      visits_join f v = subst (λ m. Visits (suc h) m x) (sym (below-child h k j i))
          (visits_more h n x (subst (λ m. Node m x) (sym to_parent) f) (subst (Visits h n) (sym to_handed) v))

    pub walk_visits : (h k : ℕ) (x : X) → Walk h k x → (i : ℕ) → i < 3 ^ h → Visits h (below h k i) x
    unfolding state_on above
    walk_visits zero k x w i l = record {
      at_node = λ t h. absurd (omega arith);
      at_leaf = subst (λ n. Leaf n x) (sym (above-below 0 k i l)) w;
    }
    walk_visits (suc h) k x w i l =
        let T = turn h i l in
        subst (λ m. Visits (suc h) (below (suc h) k m) x) (sym T.is)
        (visits_join h k T.which T.rest T.which_small T.rest_small x w.0 (walk_visits h _ _ (w.1 T.which T.which_small) T.rest T.rest_small))

    pub visits_walk : (h k : ℕ) (x : X) → ((i : ℕ) → i < 3 ^ h → Visits h (below h k i) x) → Walk h k x
    unfolding state_on
    visits_walk zero k x v = subst (λ n. Leaf n x) (below-zero k) (v 0 (omega arith)).at_leaf
    visits_walk (suc h) k x v =
        ((split 0 0 (omega arith) (omega (arith, before-power h))).0, λ j lj. visits_walk h (child k j) (step k j x) (λ i li. (split j i lj li).1))
      where
        split : (j i : ℕ) → j < 3 → i < 3 ^ h → Node k x × Visits h (below h (child k j) i) (step k j x)
        split j i lj li = visits_split h k j i lj li x (v (j * 3 ^ h + i) (turn_small h j i lj li))
