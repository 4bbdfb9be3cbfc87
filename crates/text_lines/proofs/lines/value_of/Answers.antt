-- No limit of a value is past the largest magnitude.
use Rattle.std.proofs.Common.{arith}
use Rattle.text_format.proofs.LineLaws.{limit-few}
use Rattle.text_lines.proofs.lines.value_of.Goals as goal

pub number_within-requires : goal.number_within-requires
number_within-requires c = omega (arith, c.limit_of.ensures, limit-few c.args.part)
