-- The first values are stored, and what stood behind them is as it was.
use Rattle.std.proofs.Common.{◌≡◌, ◌++◌, drop, map, take}
use Rattle.table_reader.proofs.store.fill.Given as goal

abbrev pub invariant-loop-i : goal.invariant-loop-i
invariant-loop-i g l = l.table ≡ map g.T.Held.held (take l.i l.values) ++ drop l.i l.fn.table
