use Rattle.std.proofs.Common.{◌&&◌, sym, ap, ◌∙◌, arith, drop_of_length-le}
use Rattle.protocol.specs.Basic.{all, within}
use Rattle.ranges.proofs.Scan.{asked_goes_on, and-true}
use Rattle.ranges.proofs.tests.all_within.Goals as goal

pub loop-x-preserved : goal.loop-x-preserved
loop-x-preserved g c =
    let l = c.loop-x in
    asked_goes_on (λ x. within (g.T.Signed.bound c.args.most) (g.T.Signed.number x)) _ c.x-item.result l.x-index l.good l.invariant (omega arith)
    (ap (λ b. l.good && b) c.is_within-good.ensures ∙ ap (λ x. l.good && within (g.T.Signed.bound c.args.most) (g.T.Signed.number x)) c.x-item.is)

pub returns : goal.returns
unfolding all
returns g c =
    let l = c.loop-x in
    sym (l.invariant ∙ ap (λ t. l.good && all (λ x. within (g.T.Signed.bound c.args.most) (g.T.Signed.number x)) t) (drop_of_length-le c.args.t.now (omega arith)) ∙ and-true l.good)
