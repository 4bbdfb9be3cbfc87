use Rattle.std.proofs.Common.{subst, arith, refl}
use Rattle.levels.specs.Halves.{Pairs, SplitPair}
use Rattle.levels.proofs.Halves.{pairs-none, pairs-turn}
use Rattle.levels.proofs.Pairs.{split-pair}
use Rattle.levels.proofs.split.Goals as goal

pub loop-i-init : goal.loop-i-init
loop-i-init c = pairs-none _ _ _

pub loop-i-preserved : goal.loop-i-preserved
loop-i-preserved c =
    let a = c.args in
    let l = c.loop-i in
    pairs-turn _ a.h l.i _ l.s l.invariant (omega arith) c.requires.1 _ _ (split-pair a.z _ _ c.lowered-x.result c.times-y.result _ _ c.lowered-x.ensures c.times-y.ensures refl refl)

pub returns : goal.returns
returns c = let a = c.args in subst (λ n. Pairs (SplitPair a.z) a.h n a.s.now c.loop-i.s) (omega arith) c.loop-i.invariant
