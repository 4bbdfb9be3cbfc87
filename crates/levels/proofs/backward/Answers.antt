-- The block of a whole element stands at 128.
use Rattle.levels.proofs.Blocks.{whole-block}
use Rattle.levels.proofs.backward.Goals as goal

pub returns : goal.returns
returns c = λ h. c.up.ensures.returned (whole-block _ h.0) h.1 h.2
