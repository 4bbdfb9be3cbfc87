-- How the nodes of a tree are numbered (PROTOCOL 5.1): parents and children, the nodes of one depth, and the nodes below a node.
--
--   below h k i  the number of the i-th of the nodes that are h steps below node k
use mathlib.Core.Path.{◌≡◌, refl, sym, ap, ◌∙◌}
use Prim.Native.Nat.{ℕ, zero, suc, ◌+◌, ◌*◌, ◌/◌, ◌%◌, ◌^◌, ◌<◌, ◌≤◌}
use native.Mathlib.Nat as Nat
use native.Mathlib.Omega.{arith}
use Rattle.protocol.specs.Tree.{child, parent, place, above}
unfoldable pub use Rattle.protocol.specs.Nodes.{before}
pub use Rattle.protocol.specs.Nodes.{AtDepth}

-- ---- parents and children

pub parent-child : (k j : ℕ) → j < 3 → parent (child k j) ≡ k
unfolding parent child
parent-child k j h = omega arith

pub place-child : (k j : ℕ) → j < 3 → place (child k j) ≡ j
unfolding place child
place-child k j h = omega arith

pub place_small : (k : ℕ) → place k < 3
unfolding place
place_small k = omega arith

-- every node but the root is a child of its parent
pub child-parent : (k : ℕ) → 0 < k → child (parent k) (place k) ≡ k
unfolding parent place child
child-parent k h = omega arith

-- ---- the nodes of one depth

-- 3^t = 2·N + 1
pub before-power : (t : ℕ) → 3 ^ t ≡ 2 * before t + 1
unfolding before
before-power zero = refl
before-power (suc t) = omega (arith, before-power t, Nat.pow-suc 3 t)

pub before-le : (t h : ℕ) → before t ≤ before (h + t)
unfolding before
before-le t zero = omega (arith, ap before (Nat.zero-add t))
before-le t (suc h) = omega (arith, before-le t h, ap before (Nat.suc-add h t))

pub root-depth : AtDepth 0 0
unfolding before
root-depth = record { from = omega arith; to = omega arith }

pub child-depth : (t k j : ℕ) → j < 3 → AtDepth t k → AtDepth (suc t) (child k j)
unfolding before child
child-depth t k j h a = record { from = omega arith; to = omega arith }

pub parent-depth : (t k : ℕ) → AtDepth (suc t) k → AtDepth t (parent k)
unfolding before parent
parent-depth t k a = record { from = omega arith; to = omega arith }

-- ---- the nodes below a node

unfoldable pub below : ℕ → ℕ → ℕ → ℕ
below h k i = 3 ^ h * k + before h + i

pub below-zero : (k : ℕ) → below 0 k 0 ≡ k
unfolding below before
below-zero k = omega (arith, Nat.one-mul k)

pub before-add : (h t : ℕ) → before (h + t) ≡ 3 ^ h * before t + before h
unfolding before
before-add zero t = omega (arith, ap before (Nat.zero-add t), Nat.one-mul (before t))
before-add (suc h) t = omega (arith, ap before (Nat.suc-add h t), before-add h t, ap (λ p. p * before t) (Nat.pow-suc 3 h))

-- they are numbered child by child
pub below-child : (h k j i : ℕ) → below (suc h) k (j * 3 ^ h + i) ≡ below h (child k j) i
unfolding below child before
below-child h k j i = omega (arith, before-power h, ap (λ p. p * k) (Nat.pow-suc 3 h), Nat.mul-add (3 ^ h) (3 * k + 1) j, Nat.mul-add (3 ^ h) (3 * k) 1)

-- number i of 3^(h+1) is number `rest` below child `which`
pub record Turn (h i : ℕ) : Type 0 where
  pub which : ℕ
  pub rest : ℕ
  pub which_small : which < 3
  pub rest_small : rest < 3 ^ h
  pub is : i ≡ which * 3 ^ h + rest

pub turn : (h i : ℕ) → i < 3 ^ suc h → Turn h i
turn h i l = record {
  which = i / 3 ^ h;
  rest = i % 3 ^ h;
  which_small = (Nat.div-lt_iff_lt-mul some).1 (omega (arith, Nat.pow-suc 3 h));
  rest_small = Nat.mod-lt i some;
  is = sym (Nat.div-add-mod' i (3 ^ h));
}
  where
    some : 0 < 3 ^ h
    some = omega (arith, before-power h)

pub turn_small : (h j i : ℕ) → j < 3 → i < 3 ^ h → j * 3 ^ h + i < 3 ^ suc h
turn_small h j i hj hi = omega (arith, Nat.pow-suc 3 h, Nat.mul-le-mul_right (3 ^ h) hj, Nat.suc-mul j (3 ^ h))

pub above-below : (h k i : ℕ) → i < 3 ^ h → above h (below h k i) ≡ k
unfolding above
above-below zero k i l = ap (below 0 k) (omega (arith, Nat.pow-zero 3)) ∙ below-zero k
above-below (suc h) k i l =
    let T = turn h i l in
    ap parent (ap (above h) (ap (below (suc h) k) T.is ∙ below-child h k T.which T.rest) ∙ above-below h (child k T.which) T.rest T.rest_small)
    ∙ parent-child k T.which T.which_small
