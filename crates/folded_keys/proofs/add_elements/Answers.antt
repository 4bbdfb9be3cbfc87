use Rattle.std.proofs.Common.{◌≡◌, ◌<◌, subst, arith, rules}
use Rattle.folded_keys.specs.Turns.{Summed}
use Rattle.equations.proofs.Ready.{ready}
use Rattle.folded_keys.proofs.Summing.{summed-none, element-read, summed_more}
use Rattle.folded_keys.proofs.add_elements.Goals as goal

pub loop-i-init : goal.loop-i-init
loop-i-init g c = λ z. summed-none _ _ _ _ z c.args.x.now _

pub loop-i-preserved : goal.loop-i-preserved
loop-i-preserved g c = λ z.
    let l = c.loop-i in
    let a = c.args in
    let S = a.settings in
    let m = g.A.Adding.modulus S in
    let pm : 0 < m = g.met.A.Adding.positive S (let r = ready S z.allowed in omega arith) in
    let read = element-read S a.n a.key.now a.sums.now z a.x.now m pm l.i (omega arith) l.sums (search rules) (l.invariant z) in
    summed_more S a.n a.key.now a.sums.now z a.x.now m l.i pm l.sums (l.invariant z) c.add_element.new.sums (c.add_element.ensures read)

pub returns : goal.returns
returns g c = λ z.
    let l = c.loop-i in
    let a = c.args in
    let all : l.i ≡ a.n = omega arith in
    subst (λ n. Summed (g.A.Adding.modulus a.settings) a.settings a.key.now a.x.now n l.sums) all (l.invariant z)
