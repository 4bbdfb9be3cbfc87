use Rattle.std.proofs.Common.{refl}
use Rattle.modular.proofs.Quarters.{whole, upper_is}
use Rattle.modular.proofs.factors.upper.Goals as goal

pub returns : goal.returns
returns c = upper_is _ _ _ _ _ _ _ (whole c.args.x c.args.y) refl refl
