-- The limit by its name.
use Rattle.std.proofs.Common.{arith, ap, ◌∙◌}
use Rattle.text_format.specs.Text.{value_limit, narrow_limit, read_count_at}
use Rattle.text_lines.proofs.Counts.{count_both}
use Rattle.text_lines.proofs.numbers.read_count.Goals as goal

pub count_within-requires : goal.count_within-requires
unfolding value_limit
count_within-requires c = omega arith

pub returns : goal.returns
unfolding narrow_limit
returns c = let b = count_both narrow_limit c.args.text.now c.args.at _ (c.count_within.ensures.answer ∙ ap (λ m. read_count_at m c.args.text.now c.args.at) c.from.ensures) in record { answer = b.0; numbers = b.1 }
