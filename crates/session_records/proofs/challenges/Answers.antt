use Rattle.std.proofs.Common.{◌∙◌, ap, map}
use Rattle.slices.specs.Slices.{capped}
use Rattle.session_records.proofs.Stored.{challenges-read}
use Rattle.session_records.proofs.challenges.Goals as goal

pub returns : goal.returns
returns c = c.narrowed.ensures ∙ ap (map capped) c.copy_from_slice.ensures.after ∙ challenges-read c.args.t.now c.requires
