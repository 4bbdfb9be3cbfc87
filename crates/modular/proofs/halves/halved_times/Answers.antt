use Rattle.std.proofs.Common.{◌+◌, ◌*◌, ◌/◌, ◌%◌, ◌^◌, ap, ◌∙◌, mod-lt, arith}
use Rattle.modular.proofs.Halving.{halvings_none, halvings_more}
use Rattle.modular.proofs.halves.halved_times.Goals as goal

pub loop-i-init : goal.loop-i-init
loop-i-init c = λ h. halvings_none _ _ h

pub loop-i-preserved : goal.loop-i-preserved
loop-i-preserved c =
    let a = c.args in
    let l = c.loop-i in
    λ h.
    let is = l.invariant h in
    c.halved-y.ensures (record { odd = h.odd; residue = omega (arith, is, mod-lt (((a.q + 1) / 2) ^ l.i * a.x) {m = a.q} (omega arith)) }) ∙ halvings_more a.q a.x h l.i l.y is

pub returns : goal.returns
returns c = λ h. let a = c.args in c.loop-i.invariant h ∙ ap (λ n. ((a.q + 1) / 2) ^ n * a.x % a.q) (omega arith)
