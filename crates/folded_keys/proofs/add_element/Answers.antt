use Rattle.std.proofs.Common.{◌≡◌, slice_index, arith, rules}
use Rattle.equations.proofs.Ready.{ready}
use Rattle.folded_keys.proofs.Summing.{turning, added_is}
use Rattle.folded_keys.proofs.add_element.Goals as goal

pub returns : goal.returns
returns g c = λ z.
    let a = c.args in
    let S = a.settings in
    let m = g.A.Adding.modulus S in
    let e : c.unwrap_or-e.result ≡ slice_index a.x.now a.i = search rules in
    added_is S m a.i a.key.now a.sums.now (omega (arith, (ready S z.allowed).degree_least)) z.room a.x.now e c.add.new.sums
    (c.add.ensures (turning S m a.i a.key.now a.sums.now z))
