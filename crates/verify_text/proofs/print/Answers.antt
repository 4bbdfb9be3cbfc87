-- The line of the answer.
use Rattle.text_format.specs.Programs.{verify_output}
use Rattle.table_writer.proofs.Shows.{shown-told}
use Rattle.verify_text.proofs.print.Goals as goal

pub returns-clause-output : goal.returns-clause-output
unfolding verify_output
returns-clause-output c = (shown-told (c.show_verdict.ensures _ c.verify.ensures.answer)).0

pub returns-clause-within : goal.returns-clause-within
returns-clause-within c = (shown-told (c.show_verdict.ensures _ c.verify.ensures.answer)).1
