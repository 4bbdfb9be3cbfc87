-- The largest sizes that allowed settings have: at depth 8 and degree `width`.
--
--   elements_most         2^8 elements: a row of a key, or a message
--   cells_most            their numbers, in one row
--   leaves_most           3^8
--   nodes_most            (3^8 − 1)/2 branching nodes
--   tree_challenges_most  three challenges to a branching node
--   polynomial_at_most    where the polynomial behind the last node's would begin
use Rattle.std.specs.Prelude.{ℕ, ◌*◌}
use Rattle.protocol.specs.Layout.{width, rows_width}

abbrev pub elements_most : ℕ
elements_most = 256

abbrev pub cells_most : ℕ
cells_most = elements_most * width

abbrev pub leaves_most : ℕ
leaves_most = 6561

abbrev pub nodes_most : ℕ
nodes_most = 3280

abbrev pub tree_challenges_most : ℕ
tree_challenges_most = 3 * nodes_most

abbrev pub polynomial_at_most : ℕ
polynomial_at_most = tree_challenges_most * rows_width
