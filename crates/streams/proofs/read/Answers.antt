use Rattle.std.proofs.Common.{rules}
use Rattle.streams.proofs.Filling.{read_on}
use Rattle.streams.proofs.read.Goals as goal

pub loop-done-preserved : goal.loop-done-preserved
loop-done-preserved g c = let l = c.loop-done in (search rules, read_on _ _ _ l.done _ c.in_ok-more.more l.text _ l.invariant.0 c.in_ok-more.ensures.bound.0 l.invariant.1 c.in_ok-more.ensures.bytes.0)
