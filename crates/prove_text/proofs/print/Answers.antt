-- The listing is made in a place of its own with room for the longest text.
use Rattle.std.proofs.Common.{Ok, Err, sym, refl, ap, ◌∙◌, arith, length-take-le}
use Rattle.protocol.specs.Answers.{as_written}
use Rattle.text_format.specs.Text.{text_limit}
use Rattle.text_format.specs.Programs.{refused_line}
use Rattle.table_writer.proofs.Required.{positive}
use Rattle.table_writer.proofs.Shows.{shown_as, shown-told}
use Rattle.prove_text.proofs.Output.{prints-refusal, listing-within, prints-listing}
use Rattle.prove_text.proofs.print.Goals as goal

pub slice_bounds-listing-end : goal.slice_bounds-listing-end
unfolding text_limit
slice_bounds-listing-end c = listing-within _ _ _ (as_written (Ok c.in-Ok.count)) c.in-Ok.ensures (search) refl

pub slice_bounds-show-end : goal.slice_bounds-show-end
unfolding text_limit
slice_bounds-show-end c = sym (length-take-le _ _ (listing-within _ _ _ (as_written (Ok c.in-Ok.count)) c.in-Ok.ensures (search) refl))

pub returns-in-Ok : goal.returns-in-Ok
unfolding text_limit
returns-in-Ok c = let (output, within) = shown-told (shown_as (prints-listing _ _ _ (as_written (Ok c.in-Ok.count)) c.in-Ok.ensures (search) refl) c.show.ensures) in record { output = output; within = within }

pub returns-in-Err : goal.returns-in-Err
unfolding text_limit
returns-in-Err c =
    let r = c.in-Err.refusal in
    let (output, within) = shown-told (shown_as (ap refused_line c.number.ensures ∙ prints-refusal _ _ _ (as_written (Err r)) c.in-Err.ensures (search) (λ z. absurd (omega (arith, positive r, z)))) c.show_refusal.ensures) in
    record { output = output; within = within }
