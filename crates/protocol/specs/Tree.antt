-- PROTOCOL 5: numbering, paths, s(a,b), μ, node vectors, growth.
-- In a row, node k's round polynomial is elements 3k, 3k+1, 3k+2 of the flat table of rounds; its challenges are numbers 3k, 3k+1, 3k+2 of theirs.
--
--   child k j                    the children of node k, for j = 0, 1, 2
--   parent k, place k            the node above node k, and which of its children k is
--   above h k                    the node h steps above node k
--   challenge E k j              challenge j of node k; challenge_to E k: the challenge that leads to node k
--   apart E k                    are the three challenges of node k different (refusal 12)
--   gap d a b, steps d k         b − a on the circle of 2d exponents; how many steps of k go half way round it
--   s d a b                      s(a,b); `Divisor` states what is owed of it
--   mu d a b c                   μ of the challenge X^a, the others being X^b and X^c
--   share d m v i                element i of μ·v
--   combined d n ..              a node's vector from its three children's, of n elements each
--   growth_factor, growth_limit  8·d², 2^62
--   nodes S, leaves S            passed on from Layout
--   on_path S j t                the node that the path to leaf j meets after t steps
--   path S ..                    the path to leaf j in one row, a transcript; row_path S .. r: that of row r of a tree
--   leaf S finals j              the final element of leaf j; fold_to S E j m: what L folds of m by its path's challenges give
--   vector S .. h k              the vector of node k, h steps above the leaves; root_vector S ..: that of the root
--   growth S, growth_allowed S   (8·d²)^L·B, and is it at most 2^62 (refusal 14)
use Rattle.std.specs.Prelude.{◌≡◌, Bool, ◌&&◌, not, List, ◌++◌, ℕ, zero, suc, ◌+◌, ◌*◌, ◌-◌, ◌/◌, ◌%◌, ◌^◌, ◌<◌, ◌≤◌, eqb, leb, get_or, ℤ, pos, negsuc, ◌+ℤ◌, nat_abs}
use Rattle.protocol.specs.declared.Settings.{Settings}
use Rattle.protocol.specs.Basic.{sum, least, tabulate, flat}
use Rattle.protocol.specs.Element.{Element, one, power, rotate, product, plus, times, signed, signed_at, coefficients, value_row}
use Rattle.protocol.specs.Layout.{item_of, round_items, tree_challenges}
unfoldable pub use Rattle.protocol.specs.Layout.{nodes, leaves}
use Rattle.protocol.specs.Opening.{message_after, final_element}
use Rattle.protocol.specs.Transcript.{Transcript}
use Rattle.protocol.specs.Rows.{row_items}

-- ---- numbering

-- PROTOCOL 5.1
unfoldable pub child : ℕ → ℕ → ℕ
child k j = 3 * k + 1 + j

unfoldable pub parent : ℕ → ℕ
parent k = (k - 1) / 3

unfoldable pub place : ℕ → ℕ
place k = (k - 1) % 3

unfoldable pub above : ℕ → ℕ → ℕ
above zero k = k
above (suc h) k = parent (above h k)

unfoldable pub challenge : List ℕ → ℕ → ℕ → ℕ
challenge E k j = get_or E (item_of k j) 0

-- PROTOCOL 5.1: challenge j leads to child j
unfoldable pub challenge_to : List ℕ → ℕ → ℕ
challenge_to E k = challenge E (parent k) (place k)

-- PROTOCOL 7.3, refusal 12: as numbers
unfoldable pub apart : List ℕ → ℕ → Bool
apart E k =
    not (eqb (challenge E k 0) (challenge E k 1))
    && not (eqb (challenge E k 0) (challenge E k 2))
    && not (eqb (challenge E k 1) (challenge E k 2))

-- ---- s(a,b)

unfoldable pub gap : ℕ → ℕ → ℕ → ℕ
gap d a b = (b + (2 * d - a)) % (2 * d)

-- the first i with X^(k·i) = −1, which is d where none is smaller
unfoldable pub steps : ℕ → ℕ → ℕ
steps d k = least d (λ i. eqb (k * i % (2 * d)) d)

-- with k = b − a: X^(−a)·(1 + X^k + X^2k + …), as many summands as steps of k go half way round; by telescoping, times X^a − X^b = X^a·(1 − X^k) it is 1 − (−1)
unfoldable pub s : ℕ → ℕ → ℕ → Element
s d a b place = sum (steps d (gap d a b)) (λ i. power d (gap d a b * i + (2 * d - a)) place)

-- X^a − X^b
unfoldable pub difference : ℕ → ℕ → ℕ → Element
difference d a b = plus (power d a) (times (negsuc 0) (power d b))

-- PROTOCOL 5.3: is x an element that times X^a − X^b gives 2
abbrev pub Divides : ℕ → ℕ → ℕ → Element → Type 0
Divides d a b x = (k : ℕ) → k < d → product d x (difference d a b) k ≡ times (pos 2) one k

-- PROTOCOL 5.3: the product is 2, no coefficient is larger than 1 in magnitude, and no other element does it; owed for different exponents a and b
pub record Divisor (d a b : ℕ) : Type 0 where
  pub divides : Divides d a b (s d a b)
  pub ternary : (k : ℕ) → k < d → nat_abs (s d a b k) ≤ 1
  pub only : (x : Element) → Divides d a b x → (k : ℕ) → k < d → x k ≡ s d a b k

-- ---- vectors

-- PROTOCOL 5.4, the weight of X^a: both s begin at a
unfoldable pub mu : ℕ → ℕ → ℕ → ℕ → List ℤ
mu d a b c = coefficients d (product d (product d (s d a b) (s d a c)) (plus one (power d (b + c))))

unfoldable pub share : ℕ → List ℤ → List ℤ → ℕ → Element
share d m v i = product d (signed m) (signed_at d v i)

-- PROTOCOL 5.5, the μ_j being m₁, m₂, m₃ and the r_j being X^a, X^b, X^c
unfoldable pub joined : ℕ → ℕ → ℕ → ℕ → ℕ → List ℤ → List ℤ → List ℤ → List ℤ → List ℤ → List ℤ → List ℤ
joined d n a b c m₁ m₂ m₃ v₁ v₂ v₃ =
    flat d n (λ i k. share d m₁ v₁ i k +ℤ share d m₂ v₂ i k +ℤ share d m₃ v₃ i k)
    ++ flat d n (λ i k. rotate d a (share d m₁ v₁ i) k +ℤ rotate d b (share d m₂ v₂ i) k +ℤ rotate d c (share d m₃ v₃ i) k)

unfoldable pub combined : ℕ → ℕ → ℕ → ℕ → ℕ → List ℤ → List ℤ → List ℤ → List ℤ
combined d n a b c v₁ v₂ v₃ = joined d n a b c (mu d a b c) (mu d b a c) (mu d c a b) v₁ v₂ v₃

-- ---- growth, PROTOCOL 5.6

unfoldable pub growth_factor : ℕ → ℕ
growth_factor d = 8 * d ^ 2

unfoldable pub growth_limit : ℕ
growth_limit = 2 ^ 62

-- ---- a whole tree

module _ (S : Settings) where
  open S use {degree as d, depth as L, bound as B}

  -- PROTOCOL 5.1: leaves are numbered behind the branching nodes, and a path is followed upwards from its leaf
  unfoldable pub on_path : ℕ → ℕ → ℕ
  on_path j t = above (L - t) (nodes S + j)

  unfoldable pub path_challenges : List ℕ → ℕ → List ℕ
  path_challenges E j = tabulate L (λ t. challenge_to E (on_path j (suc t)))

  unfoldable pub path_rounds : List ℕ → ℕ → List ℕ
  path_rounds rounds j = flat d (round_items S) (λ i k. get_or rounds (item_of (on_path j (i / 3)) (i % 3) * d + k) 0)

  unfoldable pub leaf : List ℤ → ℕ → List ℤ
  leaf finals j = coefficients d (signed_at d finals j)

  -- PROTOCOL 5.2
  unfoldable pub path : List ℕ → List ℕ → List ℕ → List ℤ → ℕ → Transcript
  path C rounds E finals j = record { commitment = C; rounds = path_rounds rounds j; challenges = path_challenges E j; last = leaf finals j }

  -- PROTOCOL 5.2: C is a commitment by value; a tree has three items for each node
  unfoldable pub row_path : List ℕ → List ℕ → List ℕ → List ℤ → ℕ → ℕ → Transcript
  row_path C rounds E finals r j = path (value_row C r) (row_items S (tree_challenges S) rounds r) E finals j

  -- PROTOCOL 5.7: what the leaf would be if m had been folded along its path
  unfoldable pub fold_to : List ℕ → ℕ → List ℤ → List ℤ
  fold_to E j m = final_element S (message_after S (path_challenges E j) L m)

  -- PROTOCOL 5.5; h is how far the leaves are below node k
  unfoldable pub vector : List ℕ → List ℤ → ℕ → ℕ → List ℤ
  vector E finals zero k = leaf finals (k - nodes S)
  vector E finals (suc h) k =
      combined d (2 ^ h) (challenge E k 0) (challenge E k 1) (challenge E k 2)
      (vector E finals h (child k 0)) (vector E finals h (child k 1)) (vector E finals h (child k 2))

  -- PROTOCOL 5.5: w
  unfoldable pub root_vector : List ℕ → List ℤ → List ℤ
  root_vector E finals = vector E finals L 0

  unfoldable pub growth : ℕ
  growth = growth_factor d ^ L * B

  unfoldable pub growth_allowed : Bool
  growth_allowed = leb growth growth_limit
