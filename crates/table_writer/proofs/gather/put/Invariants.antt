-- The values of the table so far stand behind those that stood there.
use Rattle.std.proofs.Common.{◌≡◌, ◌++◌, map, take}
use Rattle.table_writer.proofs.gather.put.Given as goal

abbrev pub invariant-loop-x : goal.invariant-loop-x
invariant-loop-x g l = l.values ≡ l.initial.values ++ map g.T.Value.value (take l.x-index l.table)
