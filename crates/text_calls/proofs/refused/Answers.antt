-- A first look's refusal, and else 7.
use Rattle.std.proofs.Common.{sym, ◌∙◌, arith}
use Rattle.protocol.proofs.Refusals.{first_stops, first_passes, first_only}
use Rattle.table_writer.proofs.Required.{positive}
use Rattle.text_calls.proofs.Answers.{look-number}
use Rattle.text_calls.proofs.refused.Goals as goal

pub returns-in-Ok : goal.returns-in-Ok
returns-in-Ok c =
    let same = look-number c.args.text.now _ c.in-Ok.ensures in
    sym (first_passes _ _ (sym same) ∙ first_only 7)

pub returns-in-Err : goal.returns-in-Err
returns-in-Err c =
    let same = look-number c.args.text.now _ c.in-Err.ensures in
    same ∙ sym (first_stops _ _ (λ z. absurd (omega (arith, positive c.in-Err.refusal, same, z))))
