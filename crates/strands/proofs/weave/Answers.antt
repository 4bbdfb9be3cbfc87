use Rattle.std.proofs.Common.{◌<◌, subst, arith, length-take-le, get_or-take}
use Rattle.protocol.proofs.Reading.{cell-inside}
use Rattle.strands.specs.Strands.{StrandIn}
use Rattle.strands.proofs.Weaving.{strand-none, strand_more}
use Rattle.strands.proofs.weave.Goals as goal

pub loop-j-init : goal.loop-j-init
loop-j-init c = let a = c.args in strand-none a.strands a.r c.requires.1 a.a.now a.k.now

pub loop-j-preserved : goal.loop-j-preserved
loop-j-preserved c =
    let a = c.args in
    let l = c.loop-j in
    let inside : l.j < a.d = omega (arith, length-take-le a.d a.a.now (omega arith)) in
    strand_more a.strands a.r c.requires.1 a.a.now a.k.now l.j l.k _ l.invariant (get_or-take a.d a.a.now l.j 0 inside)
    (omega (arith, cell-inside a.strands a.d l.j a.r inside c.requires.1, c.requires.3))

pub returns : goal.returns
returns c = λ _. let a = c.args in let l = c.loop-j in subst (λ n. StrandIn a.strands a.r n a.a.now a.k.now l.k) (omega (arith, length-take-le a.d a.a.now (omega arith))) l.invariant
