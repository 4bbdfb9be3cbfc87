use Rattle.std.proofs.Common.{◌+◌}
use Rattle.std.proofs.lemmas.List.{get_or_read}
use Rattle.residues.proofs.Added.{added_one}
use Rattle.residues.proofs.Adding.{promised}
use Rattle.folds.proofs.add_one.Goals as goal

pub returns : goal.returns
returns g c =
    let a = c.args in
    let z = g.T.Entry.NONE in
    added_one a.place a.t.now _ c.requires.1 (λ h.
    promised z (g.S.Sum.allowed a.by) (g.S.Sum.sum a.by a.negative) (get_or_read a.t.now (a.to + a.place) _ c.requires.1 c.index-t-to.is z)
    (get_or_read a.t.now (a.from + a.place) _ c.requires.0 c.index-t-from.is z) c.add.ensures h)
