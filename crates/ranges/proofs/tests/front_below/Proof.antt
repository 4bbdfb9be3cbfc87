use Rattle.std.proofs.Common.{sym, ◌∙◌, arith, length-take-le, rules}
use Rattle.ranges.proofs.Scan.{all_front}
use Rattle.ranges.proofs.tests.front_below.Statement.{statement}
use Rattle.ranges.proofs.tests.front_below.Tie as tie

returns-then-n-t : tie.Need-returns-then-n-t
returns-then-n-t c = λ h. absurd (omega arith)

slice_bounds-all_below_wide-end : tie.Need-slice_bounds-all_below_wide-end
slice_bounds-all_below_wide-end c = sym (length-take-le _ _ (omega arith))

returns : tie.Need-returns
returns c = λ h. c.all_below_wide.ensures ∙ all_front _ _ 0 _ h

pub front_below_spec : {M : Type 1} → statement M
front_below_spec = tie.close (tie.spec returns-then-n-t slice_bounds-all_below_wide-end (λ c κs. search rules) returns)
