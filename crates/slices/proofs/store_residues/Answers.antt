use Rattle.std.proofs.Common.{◌∙◌, arith}
use Rattle.protocol.specs.Basic.{flat}
use Rattle.protocol.specs.Rows.{together}
use Rattle.sizes.proofs.Limits.{allowed_degree, allowed_rows}
use Rattle.slices.proofs.Elements.{stored_whole}
use Rattle.slices.proofs.store_residues.Goals as goal

pub returns : goal.returns
unfolding together flat
returns c = λ ok long.
    let S = c.args.settings in
    c.lay_rows.ensures ((allowed_degree S ok).0, allowed_rows S ok, omega arith, omega arith) ∙ stored_whole _ _ c.args.out.now long
