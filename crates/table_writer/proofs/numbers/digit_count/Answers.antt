-- The largest power of ten that the number is not below.
use Rattle.std.proofs.Common.{◌+◌, ap, min, ◌∙◌}
use Rattle.table_writer.proofs.Digits.{counted}
use Rattle.table_writer.proofs.numbers.digit_count.Goals as goal

pub returns : goal.returns
returns c =
    let r = c.checked_ilog10 in
    c.min.ensures ∙ ap (λ k. min (k + 1) 19) c.unwrap_or-power.ensures ∙ counted c.args.n r.result r.ensures.none r.ensures.power_le r.ensures.next_power_gt
