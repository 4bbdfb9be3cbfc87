-- Each test in its turn.
use Rattle.std.proofs.Common.{rules, ◌∙◌}
use Rattle.protocol.specs.Basic.{first, unless}
use Rattle.protocol.specs.Settings.{all_below, all_within, exponent, exponents}
use Rattle.text_format.specs.Text.{narrow_limit}
use Rattle.table_writer.proofs.Required.{asked}
use Rattle.table_writer.proofs.refusal.tables_refusal.Goals as goal

pub returns-in_err-allow : goal.returns-in_err-allow
unfolding first unless
returns-in_err-allow c = search rules ∙ asked _ _ _

pub returns-in_err-require : goal.returns-in_err-require
unfolding first unless
returns-in_err-require c = search rules ∙ asked _ _ _

pub returns-in_err-require-2 : goal.returns-in_err-require-2
unfolding first unless all_below
returns-in_err-require-2 c = search rules ∙ asked _ _ _

pub returns-in_err-require-3 : goal.returns-in_err-require-3
unfolding first unless all_below all_within narrow_limit
returns-in_err-require-3 c = search rules ∙ asked _ _ _

pub returns : goal.returns
unfolding first unless all_below all_within narrow_limit exponent exponents
returns c = search rules ∙ asked _ _ _
