use Rattle.std.proofs.Common.{sym, ◌∙◌}
use Rattle.protocol.proofs.TreeCheck.{every-path-tree}
use Rattle.tree_check.proofs.every_path_accepted.Goals as goal

pub returns-then-leaves-leaf_cells : goal.returns-then-leaves-leaf_cells
returns-then-leaves-leaf_cells c = λ g. c.every_row_accepted.ensures g ∙ sym (every-path-tree _ _ _ _ _ _)
