use Rattle.half_sums.specs.Halves.{size_of}
use Rattle.plain_products.proofs.size.Goals as goal

pub returns-then-shape : goal.returns-then-shape
unfolding size_of
returns-then-shape c = rw c.if-shape.true

pub returns : goal.returns
unfolding size_of
returns c = rw c.if-shape.false
