-- The loop keeps: the first j sums have their product added, the others are as they were.
use Rattle.std.proofs.Common.{◌≡◌}
use Rattle.powers.specs.Powers.{Below}
use Rattle.residues.specs.Lists.{filled}
use Rattle.transform.specs.Steps.{with_product}
use Rattle.transform.proofs.add_products.Given as goal

abbrev pub invariant-loop-j : goal.invariant-loop-j
invariant-loop-j l = Below 49156 l.x × Below 49156 l.y → l.sums ≡ filled (with_product l.x l.y l.fn.sums) l.j l.fn.sums
