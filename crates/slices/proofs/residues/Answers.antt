use Rattle.std.proofs.Common.{refl, ◌∙◌, arith}
use Rattle.protocol.specs.Element.{zeros}
use Rattle.sizes.proofs.Limits.{allowed_degree, allowed_rows}
use Rattle.slices.proofs.Rows.{placed-values}
use Rattle.slices.proofs.residues.Goals as goal

pub returns : goal.returns
unfolding zeros
returns c = λ ok long.
    let S = c.args.settings in
    c.place_rows.ensures ((allowed_degree S ok).0, allowed_rows S ok, omega arith, refl) ∙ placed-values S c.args.t.now
