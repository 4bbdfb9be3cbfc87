-- How code goes down a tree (document 01 numbers the nodes from the root, the children of node k being 3k+1, 3k+2, 3k+3): where a node stands, in the
-- tree and in the list that a recursion hands on. In such a list a node's own numbers are the second half of its part, and its children work in the first half.
--
--   before t                   how many nodes are less deep than t, (3^t − 1)/2: the number of the first node of depth t
--   AtDepth t k                node k has depth t
--   AtNode S h k first space   node k is h steps above the leaves, `first` is the number of the first leaf, and a list of `space` numbers has room for 2^h elements and as many again
--   Alike n l m                the lists l and m have the same first n numbers
use Rattle.std.specs.Prelude.{◌≡◌, List, ℕ, zero, suc, ◌+◌, ◌*◌, ◌-◌, ◌^◌, ◌<◌, ◌≤◌, get_or}
use Rattle.protocol.specs.declared.Settings.{Settings}
use Rattle.protocol.specs.Tree.{nodes}

unfoldable pub before : ℕ → ℕ
before zero = 0
before (suc t) = 3 * before t + 1

pub record AtDepth (t k : ℕ) : Type 0 where
  pub from : before t ≤ k
  pub to : k < before (suc t)

pub record AtNode (S : Settings) (h k first space : ℕ) : Type 0 where
  pub height : h ≤ S.depth
  pub at_depth : AtDepth (S.depth - h) k
  pub first-is : first ≡ nodes S
  pub space_is : space ≡ 2 * (2 ^ h * S.degree)

abbrev pub Alike : ℕ → List ℕ → List ℕ → Type 0
Alike n l m = (j : ℕ) → j < n → get_or l j 0 ≡ get_or m j 0
