-- A short text by a small place, every other by one that has room for all.
use Rattle.std.proofs.Common.{arith}
use Rattle.text_format.specs.Text.{text_limit}
use Rattle.table_reader.proofs.read_tables.Goals as goal

pub read_by-requires-2 : goal.read_by-requires-2
unfolding text_limit
read_by-requires-2 c = λ h. omega arith
