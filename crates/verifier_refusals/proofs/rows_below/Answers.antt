use Rattle.protocol.specs.Settings.{residue_rows, residue_element}
use Rattle.sizes.proofs.Limits.{allowed_degree, allowed_rows}
use Rattle.verifier_refusals.proofs.rows_below.Goals as goal

pub returns : goal.returns
unfolding residue_rows residue_element
returns c = λ ok long. let S = c.args.settings in c.rows_below.ensures ((allowed_degree S ok).0, allowed_rows S ok, long)
