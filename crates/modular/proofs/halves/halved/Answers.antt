use Rattle.std.proofs.Common.{arith}
use Rattle.modular.proofs.Halving.{half_even, half-odd}
use Rattle.modular.proofs.halves.halved.Goals as goal

pub returns-then-x-eq0 : goal.returns-then-x-eq0
returns-then-x-eq0 c = λ h. half_even c.args.q c.args.x h (omega arith)

pub returns : goal.returns
returns c = λ h. half-odd c.args.q c.args.x h (omega arith)
