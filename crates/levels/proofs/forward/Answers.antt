-- The block of a whole element stands at 128.
use Rattle.levels.proofs.Blocks.{whole-block}
use Rattle.levels.proofs.forward.Goals as goal

pub returns : goal.returns
returns c = λ w h. c.down.ensures.sent w (whole-block _ h.0) h.1 h.2
