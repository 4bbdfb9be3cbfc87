-- The root's vector in a local list with room for two vectors: there is room for it, and its second half, copied, is the vector.
use mathlib.Core.Path.{◌≡◌, sym, ap, ◌∙◌, subst}
use mathlib.Core.List.{List, ◌++◌, append-nil}
use Prim.Native.Nat.{ℕ, ◌*◌, ◌-◌, ◌≤◌}
use native.Mathlib.Nat as Nat
use native.Mathlib.Omega.{arith}
use lib.ListN.{length, take, drop, length-append, length-drop, length-take, drop_of_length-le}
use lib.Seq.{drop-append-le, take_at, take-length}
use lib.IntN.{ℤ}
use Rattle.protocol.specs.declared.Settings.{Settings}
use Rattle.protocol.specs.Settings.{size, cells}
use Rattle.protocol.specs.Tree.{nodes}
use Rattle.protocol.proofs.GrowthTest.{growth-cells}
use Rattle.protocol.proofs.Numbering.{AtDepth, root-depth}
use Rattle.protocol.specs.Nodes.{AtNode}
use Rattle.extraction.specs.Nodes.{vector_room, Extractable}

-- l is what such a list, z, holds in its first 2·n places after the call
module _ (n : ℕ) (l z : List ℤ) (room : n ≤ vector_room) (lent : length l ≡ 2 * n) (all : length z ≡ 2 * vector_room) where
  pub kept_long : length (l ++ drop (2 * n) z) ≡ 2 * vector_room
  kept_long = length-append l (drop (2 * n) z) ∙ omega (arith, length-drop (2 * n) z)

  -- the part that is copied is the second half of l
  pub copied : take (2 * n - n) (drop n (l ++ drop (2 * n) z)) ≡ drop n l
  copied =
      ap (take (2 * n - n)) (drop-append-le n l (drop (2 * n) z) (omega (arith, lent)))
      ∙ take_at (drop n l) (drop (2 * n) z) (2 * n - n) (length-drop n l ∙ omega (arith, lent))

-- a vector of n numbers, copied to a table of n
pub stored : (n : ℕ) (v u w : List ℤ) → v ≡ u → length u ≡ n → length w ≡ n → take n v ++ drop n w ≡ u
stored n v u w e lu lw =
    ap (λ l. take n l ++ drop n w) e
    ∙ ap (λ l. take n u ++ l) (drop_of_length-le w {i = n} (omega (arith, lw)))
    ∙ append-nil (take n u)
    ∙ ap (λ m. take m u) (sym lu)
    ∙ take-length u

module _ (S : Settings) (E : List ℕ) (finals : List ℤ) (tree : Extractable S E finals) where
  pub root-room : cells S ≤ vector_room
  root-room = growth-cells S tree.valid tree.limited

  -- the root is a node with all steps below it
  pub root_at : (first n : ℕ) (z : List ℤ) → first ≡ nodes S → n ≡ cells S → length z ≡ 2 * vector_room → AtNode S S.depth 0 first (length (take (2 * n) z))
  unfolding cells size
  root_at first n z f e all = record {
    height = Nat.le_refl S.depth;
    at_depth = subst (λ t. AtDepth t 0) (sym (Nat.sub_self S.depth)) root-depth;
    first-is = f;
    space_is = length-take (2 * n) z ∙ omega (arith, root-room);
  }
