-- The layout: how many elements, numbers, challenges and nodes there are, and which item of a table is which: one name for each.
-- The crate `sizes` gives the same in code.
-- Tables are flat, d numbers to an element. A round polynomial is three elements in each row, and a branching node has one round polynomial and three challenges.
--
--   width                         128: how many places an element has that is passed by value
--   rows_most                     4: how many rows there can be
--   rows_width                    512: how many places there are for an element of each row that is passed by value
--   slots                         8: how many challenges a record holds, one for each round that there can be
--   size S, cells S               n = 2^L elements, and n·d numbers: a row of a key, a message, the extractor's w
--   key_items S, key_cells S      rows·n elements, and rows·n·d numbers: a key
--   left S t, left_cells S t      the elements that are left after t rounds, n/2^t, and their numbers
--   half_left S t                 the elements of a half of what is left after t rounds
--   item_cells S                  rows·d numbers: an element for each row, as a commitment is, and c_j of a round
--   polynomial_cells S            3·rows·d numbers: a round polynomial
--   polynomial_at S k             3·k·rows·d: where the polynomial of round k + 1, or of node k, begins
--   round_items S                 3·L elements: the round polynomials of a transcript in one row
--   round_cells S                 rows·3·L·d numbers: those of all rows
--   claim_items S, claim_cells S  rows·L elements, and rows·L·d numbers: the claims after each round
--   nodes S, leaves S             N = (3^L − 1)/2 branching nodes, and 3^L leaves
--   tree_round_cells S            rows·3·N·d numbers: the round polynomials of a tree
--   tree_challenges S             3·N numbers: the challenges of a tree
--   leaf_cells S                  3^L·d numbers: the final elements of a tree
--   exponent_count S              2·d: how many exponents there are
--   item_of k j                   3·k + j: c_j of round k + 1 among the elements of a row of a transcript, c_j of node k among those of a tree, challenge j of node k
use Rattle.std.specs.Prelude.{ℕ, ◌+◌, ◌*◌, ◌-◌, ◌/◌, ◌^◌}
use Rattle.protocol.specs.declared.Settings.{Settings}

-- ---- what is passed by value

-- PROTOCOL 8.1: the largest degree
abbrev pub width : ℕ
width = 128

-- PROTOCOL 1.1
abbrev pub rows_most : ℕ
rows_most = 4

abbrev pub rows_width : ℕ
rows_width = rows_most * width

-- PROTOCOL 4.1
abbrev pub slots : ℕ
slots = 8

-- ---- key and message

unfoldable pub size : Settings → ℕ
size S = 2 ^ S.depth

unfoldable pub cells : Settings → ℕ
cells S = size S * S.degree

abbrev pub key_items : Settings → ℕ
key_items S = S.rows * size S

abbrev pub key_cells : Settings → ℕ
key_cells S = key_items S * S.degree

-- each round halves what is left
unfoldable pub left : Settings → ℕ → ℕ
left S t = size S / 2 ^ t

abbrev pub left_cells : Settings → ℕ → ℕ
left_cells S t = left S t * S.degree

unfoldable pub half_left : Settings → ℕ → ℕ
half_left S t = size S / 2 ^ (t + 1)

-- ---- elements and round polynomials

abbrev pub item_cells : Settings → ℕ
item_cells S = S.rows * S.degree

abbrev pub polynomial_cells : Settings → ℕ
polynomial_cells S = 3 * item_cells S

abbrev pub polynomial_at : Settings → ℕ → ℕ
polynomial_at S k = 3 * k * item_cells S

abbrev pub round_items : Settings → ℕ
round_items S = 3 * S.depth

abbrev pub round_cells : Settings → ℕ
round_cells S = S.rows * round_items S * S.degree

abbrev pub claim_items : Settings → ℕ
claim_items S = S.rows * S.depth

abbrev pub claim_cells : Settings → ℕ
claim_cells S = claim_items S * S.degree

abbrev pub item_of : ℕ → ℕ → ℕ
item_of k j = 3 * k + j

-- ---- trees

unfoldable pub nodes : Settings → ℕ
nodes S = (3 ^ S.depth - 1) / 2

unfoldable pub leaves : Settings → ℕ
leaves S = 3 ^ S.depth

abbrev pub tree_challenges : Settings → ℕ
tree_challenges S = 3 * nodes S

abbrev pub tree_round_cells : Settings → ℕ
tree_round_cells S = S.rows * tree_challenges S * S.degree

abbrev pub leaf_cells : Settings → ℕ
leaf_cells S = leaves S * S.degree

-- ---- challenges

abbrev pub exponent_count : Settings → ℕ
exponent_count S = 2 * S.degree
