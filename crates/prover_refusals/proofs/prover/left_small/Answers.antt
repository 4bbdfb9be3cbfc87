use Rattle.std.proofs.Common.{◌≡◌, sym, ◌∙◌, take, arith}
use lib.Seq.{length-take-le}
use Rattle.protocol.specs.Settings.{all_within}
use Rattle.protocol.specs.Layout.{left_cells}
use Rattle.protocol.specs.Calls.{left_small}
use Rattle.protocol.proofs.OpeningLaws.{left_inside}
use Rattle.prover_refusals.proofs.prover.left_small.Goals as goal

pub slice_bounds-all_within-end : goal.slice_bounds-all_within-end
slice_bounds-all_within-end c =
    let part : c.left_cells-end.result ≡ left_cells c.args.settings c.args.t = c.left_cells-end.ensures (record { allowed = c.requires.0; most = c.requires.1 }) in
    sym (length-take-le _ _ (omega (arith, part, left_inside c.args.settings c.args.t, c.requires.2)))

pub returns : goal.returns
unfolding left_small all_within
returns c =
    let part : c.left_cells-end.result ≡ left_cells c.args.settings c.args.t = c.left_cells-end.ensures (record { allowed = c.requires.0; most = c.requires.1 }) in
    c.all_within.ensures ∙ (λ i. all_within (c.left_bound-bound.ensures (record { allowed = c.requires.0; most = c.requires.1 }) i) (take (part i) c.args.message.now))
