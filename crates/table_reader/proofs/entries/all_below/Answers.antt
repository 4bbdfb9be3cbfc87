-- Every value is asked.
use Rattle.std.proofs.Common.{ltb, pos, sym, ◌∙◌, rules}
use Rattle.protocol.proofs.Chains.{all_is}
use Rattle.protocol.proofs.Tests.{all_map}
use Rattle.text_format.specs.Text.{value_limit, unsigned}
use Rattle.table_reader.proofs.entries.all_below.Goals as goal

pub returns : goal.returns
returns c = let a = c.args in all_is (λ z. ltb (unsigned value_limit z) a.limit) a.values.now (pos 0) (search rules) ∙ sym (all_map (λ x. ltb x a.limit) (unsigned value_limit) a.values.now)
