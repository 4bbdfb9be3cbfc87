-- Nothing where there is no room, and else a copy.
use Rattle.std.proofs.Common.{rules, ap, ◌++◌, length, drop}
use Rattle.table_writer.proofs.Shows.{shown_all, shown-none}
use Rattle.table_writer.proofs.shown.show.Goals as goal

pub returns-then-count-out : goal.returns-then-count-out
returns-then-count-out c = shown-none _ _ (search rules)

pub returns : goal.returns
returns c = shown_all _ _ _ (search rules) (ap (λ t. t ++ drop (length c.args.bytes.now) c.args.out.now) c.copy_from_slice.ensures.after)
