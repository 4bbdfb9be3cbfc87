use Rattle.std.proofs.Common.{◌∙◌, ◌*◌, sym, ap, subst, length, arith}
use Rattle.protocol.specs.Rows.{key_row}
use Rattle.protocol.specs.Transcript.{accepted}
use Rattle.sizes.proofs.Limits.{allowed_degree}
use Rattle.equations.proofs.Polynomials.{part}
use Rattle.equations.proofs.ByValue.{key_part}
use Rattle.transcripts.specs.Given.{lent_row, RowGiven}
use Rattle.transcripts.proofs.RowParts.{row_given, row_is}
use Rattle.transcripts.proofs.accepted_at.Goals as goal

pub overflow_mul-from : goal.overflow_mul-from
overflow_mul-from c = let p = c.requires in let k = key_part c.args.settings p.0.allowed c.args.key.now c.args.i _ (c.cells-n.ensures p.0.allowed) p.1 p.0.key_long in omega (arith, k.inside, k.few)

pub overflow_add-to : goal.overflow_add-to
overflow_add-to c = let p = c.requires in let k = key_part c.args.settings p.0.allowed c.args.key.now c.args.i _ (c.cells-n.ensures p.0.allowed) p.1 p.0.key_long in omega (arith, k.inside, k.few)

pub offset_bounds-key-from : goal.offset_bounds-key-from
offset_bounds-key-from c = let p = c.requires in let k = key_part c.args.settings p.0.allowed c.args.key.now c.args.i _ (c.cells-n.ensures p.0.allowed) p.1 p.0.key_long in omega (arith, k.inside, k.few)

pub slice_bounds-row_accepted-end-2 : goal.slice_bounds-row_accepted-end-2
slice_bounds-row_accepted-end-2 c = let p = c.requires in let k = key_part c.args.settings p.0.allowed c.args.key.now c.args.i _ (c.cells-n.ensures p.0.allowed) p.1 p.0.key_long in k.inside

pub returns : goal.returns
returns c = λ g.
    let p = c.requires in let k = key_part c.args.settings p.0.allowed c.args.key.now c.args.i _ (c.cells-n.ensures p.0.allowed) p.1 p.0.key_long in
    let a = c.args in
    let S = a.settings in
    let row = key_row S a.key.now a.i in
    let start = c.row_start-start.ensures.0 g.allowed p.1 in
    c.row_accepted.ensures (
    subst (λ k. RowGiven S (length a.last.now) k (part c.row_start-start.result a.rounds.now) a.challenges.now) (sym k.row)
    (subst (λ at. RowGiven S (length a.last.now) row (part at a.rounds.now) a.challenges.now) (sym start)
    (row_given S a.rounds.now a.challenges.now a.last.now a.i p.1 a.key.now g)))
    ∙ (λ z. accepted S (k.row z) (lent_row S (part (a.i * a.step) a.commitment.now) (part (start z) a.rounds.now) a.challenges.now a.last.now))
    ∙ ap (accepted S row)
    (row_is S a.rounds.now a.challenges.now a.last.now a.i p.1 (omega (arith, allowed_degree S g.allowed)) a.step a.commitment.now)
