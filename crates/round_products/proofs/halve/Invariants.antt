-- The first numbers are halved, the others are as they were.
use Rattle.std.proofs.Common.{◌≡◌, ℕ, ◌*◌, ◌%◌, ◌^◌, get_or, take}
use Rattle.protocol.specs.Basic.{Provided}
use Rattle.residues.specs.Lists.{filled}
use Rattle.round_products.specs.Sums.{half, Halvables}
use Rattle.round_products.proofs.halve.Given as goal

abbrev pub invariant-loop-x : goal.invariant-loop-x
invariant-loop-x l = Provided (Halvables l.q l.n l.fn.p) (l.x-items ≡ filled (λ (j : ℕ). half l.q ^ l.t * get_or l.fn.p j 0 % l.q) l.x-index (take l.n l.fn.p))
