use Rattle.std.proofs.Common.{◌≡◌, ap, ◌∙◌}
use Rattle.protocol.specs.Opening.{half_left, fold_signed}
use Rattle.prover_refusals.proofs.Given.{first_row, fold_key_holds, fold_given}
use Rattle.prover.proofs.Folding.{message_foldable, keys_given}
use Rattle.prover.proofs.Answers.{fold_done}
use Rattle.prover.proofs.fold_tables.Goals as goal

pub returns : goal.returns
returns c = λ z.
    let a = c.args in
    let S = a.settings in
    let G = a.key.now in
    let m = a.message.now in
    let (ok, _) = fold_key_holds S G m a.done a.e z in
    let g = fold_given S G m a.done a.e z 0 (first_row S ok) in
    let h = c.half_left-h in
    let is : h.result ≡ half_left S a.done = h.ensures (record { allowed = ok; turn = g.turn }) in
    fold_done S a.done a.e G m z _ _
    (c.fold_keys.ensures (keys_given S a.done a.e G m z))
    (c.fold_message.ensures (rw is (message_foldable S a.done a.e _ m g)) ∙ ap (λ n. fold_signed S.degree n a.e m) is)
