use Rattle.std.proofs.Common.{◌∙◌}
use Rattle.protocol.specs.Settings.{half}
use Rattle.round_products.proofs.Itemwise.{first-item}
use Rattle.opening_rounds.proofs.first_item.Goals as goal

pub returns : goal.returns
unfolding half
returns c = λ z room. let a = c.args in c.item.ensures z room ∙ first-item a.settings a.t a.key.now a.message.now z a.out.now
