-- The rows that are passed have their places, and the others are zeros.
use Rattle.std.proofs.Common.{◌≡◌, length}
use Rattle.protocol.specs.Basic.{Provided}
use Rattle.protocol.specs.Element.{zeros}
use Rattle.protocol.specs.Layout.{rows_width}
use Rattle.protocol.specs.Settings.{settings_refusal}
use Rattle.verifier_refusals.specs.Lent.{lent_rows, RowsLent}
use Rattle.row_equations.proofs.RowByRow.{first_rows}
use Rattle.verifier.specs.Records.{row_read}
use Rattle.verifier.proofs.read_rows.Given as goal

abbrev pub invariant-loop-i : goal.invariant-loop-i
invariant-loop-i l =
    let S = l.fn.settings in
    Provided ((settings_refusal S ≡ 0) × RowsLent S l.step (length l.commitment) × (l.initial.claims ≡ zeros rows_width))
    (l.claims ≡ first_rows S (row_read S (lent_rows S l.step l.commitment)) l.i)
