-- The loop keeps: the first k coefficients are joined.
use Rattle.std.proofs.Common.{◌≡◌, ℕ}
use Rattle.protocol.specs.Element.{Element, modulo}
use Rattle.residues.specs.Lists.{filled}
use Rattle.joins.specs.Sums.{Ready, Stand}
use Rattle.joins.proofs.elements.join_all.Given as goal

abbrev pub invariant-loop-k : goal.invariant-loop-k
invariant-loop-k l = (q : ℕ) (F : Element) → Ready q l.joint → Stand q l.d F l.s l.t → l.front ≡ filled (λ j. modulo q (F j)) l.k l.initial.front
