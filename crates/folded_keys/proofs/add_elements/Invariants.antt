-- The first i elements are added up.
use Rattle.protocol.specs.Basic.{Provided}
use Rattle.folded_keys.specs.Turns.{Summable, Summed}
use Rattle.folded_keys.proofs.add_elements.Given as goal

abbrev pub invariant-loop-i : goal.invariant-loop-i
invariant-loop-i g l = Provided (Summable l.settings l.n l.key l.fn.sums) (Summed (g.A.Adding.modulus l.settings) l.settings l.key l.x l.i l.sums)
