-- The loop keeps: the first k numbers of the strand are joined, what stands behind them is as it was.
use Rattle.std.proofs.Common.{◌≡◌, ℕ, ◌*◌, take}
use Rattle.protocol.specs.Element.{Element, modulo}
use Rattle.residues.specs.Lists.{filled}
use Rattle.rows.specs.Rows.{woven}
use Rattle.joins.specs.Sums.{Ready, Stand}
use Rattle.joins.proofs.elements.join_strand.Given as goal

abbrev pub invariant-loop-k : goal.invariant-loop-k
invariant-loop-k l =
    (q : ℕ) (F : ℕ → Element) → Ready q l.joint → Stand q (l.d * l.strands) (woven l.strands F) l.s l.t → l.front ≡ filled (λ j. modulo q (F l.r j)) l.k (take l.d l.fn.out)
