-- The limit by its name.
use Rattle.std.proofs.Common.{arith}
use Rattle.text_format.specs.Text.{value_limit}
use Rattle.text_lines.proofs.Counts.{number_both}
use Rattle.text_lines.proofs.numbers.read_number.Goals as goal

pub number_within-requires : goal.number_within-requires
unfolding value_limit
number_within-requires c = omega arith

pub returns : goal.returns
unfolding value_limit
returns c = let b = number_both value_limit c.args.text.now c.args.at _ c.number_within.ensures.answer in record { answer = b.0; numbers = b.1 }
