-- The rows that are passed have their claims, and the others are zeros.
use Rattle.std.proofs.Common.{◌≡◌, ℕ, List}
use Rattle.protocol.specs.declared.Settings.{Settings}
use Rattle.protocol.specs.Basic.{Provided}
use Rattle.protocol.specs.Element.{value_row, residue, zeros}
use Rattle.protocol.specs.Layout.{rows_width}
use Rattle.protocol.specs.Transcript.{next_claim}
use Rattle.verifier_refusals.specs.Lent.{lent_rows}
use Rattle.row_equations.specs.Given.{RowsEvaluable}
use Rattle.row_equations.proofs.RowByRow.{first_rows}
use Rattle.row_equations.proofs.next_rows.Given as goal

abbrev pub claim : Settings → ℕ → ℕ → List ℕ → List ℕ → List ℕ → ℕ → List ℕ
claim settings e step c0 c1 c2 i =
    next_claim settings e (residue (value_row (lent_rows settings step c0) i)) (residue (value_row (lent_rows settings step c1) i)) (residue (value_row (lent_rows settings step c2) i))

abbrev pub invariant-loop-i : goal.invariant-loop-i
invariant-loop-i l =
    let S = l.fn.settings in
    Provided (RowsEvaluable S l.step l.c0 l.c1 l.c2 × (l.initial.claims ≡ zeros rows_width)) (l.claims ≡ first_rows S (claim S l.e l.step l.c0 l.c1 l.c2) l.i)
