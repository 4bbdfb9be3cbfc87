-- Column after column the lines of the grid of rows are crossed.
use Rattle.std.proofs.Common.{arith}
use Rattle.residues.proofs.Added.{rows_fresh, columns-fresh, crossed_apart, crossed-added}
use Rattle.folds.proofs.Folds.{few}
use Rattle.folds.proofs.add_places.Goals as goal

pub add_grid-requires : goal.add_grid-requires
add_grid-requires g c = let a = c.args in (c.requires.0, omega arith, columns-fresh a.d a.h a.m c.requires.3, crossed_apart a.m 1 a.d a.h c.requires.4)

pub returns-then-d-lt-ROWS_FROM : goal.returns-then-d-lt-ROWS_FROM
returns-then-d-lt-ROWS_FROM g c = let a = c.args in crossed-added a.h a.d 1 a.m c.add_grid.ensures

pub add_grid-requires-2 : goal.add_grid-requires-2
add_grid-requires-2 g c = let a = c.args in (omega arith, few a.d a.h c.requires.1 c.requires.2, rows_fresh a.d a.h a.m c.requires.3, c.requires.4)
