-- The line of each case.
use Rattle.std.proofs.Common.{Ok, sym, ap, ◌∙◌}
use Rattle.protocol.specs.Answers.{as_checked}
use Rattle.text_format.specs.Text.{bytes}
use Rattle.text_format.specs.Programs.{refused_line}
use Rattle.table_writer.proofs.Shows.{shown_as}
use Rattle.verify_text.proofs.Said.{line-accepted, line-rejected, line-refused, line-none}
use Rattle.verify_text.proofs.show_verdict.Goals as goal

pub returns-in-Ok-Accepted : goal.returns-in-Ok-Accepted
unfolding bytes
returns-in-Ok-Accepted c = λ v h. shown_as (line-accepted v (sym (ap as_checked c.in-Ok-Accepted.is ∙ ap (λ x. as_checked (Ok x)) (rw c.in-Ok-Accepted.is at c.in-Ok-Accepted.field-0-is)) ∙ h)) c.show.ensures

pub returns-in-Ok-Rejected : goal.returns-in-Ok-Rejected
unfolding bytes
returns-in-Ok-Rejected c = λ v h. shown_as (line-rejected v (sym (ap as_checked c.in-Ok-Rejected.is ∙ ap (λ x. as_checked (Ok x)) (rw c.in-Ok-Rejected.is at c.in-Ok-Rejected.field-0-is)) ∙ h)) c.show-in-Ok-Rejected.ensures

pub returns-in-Ok-Holds : goal.returns-in-Ok-Holds
returns-in-Ok-Holds c = λ v h. line-none v (sym (ap as_checked c.in-Ok-Holds.is ∙ ap (λ x. as_checked (Ok x)) (rw c.in-Ok-Holds.is at c.in-Ok-Holds.field-0-is)) ∙ h)

pub returns-in-Err : goal.returns-in-Err
returns-in-Err c = λ v h. shown_as (ap refused_line c.number.ensures ∙ line-refused _ v (sym (ap as_checked c.in-Err.is) ∙ h)) c.show_refusal.ensures
