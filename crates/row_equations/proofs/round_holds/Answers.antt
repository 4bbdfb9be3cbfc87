use Rattle.std.proofs.Common.{◌≡◌, ℕ, Bool, true, false, length, refl, rules, arith}
use Rattle.std.proofs.lemmas.Iterator.{cases_from_all}
use borrow.Author.Tests.{tests}
use Rattle.protocol.specs.Element.{value_row, residue}
use Rattle.protocol.specs.Transcript as transcript
use Rattle.protocol.proofs.Chains.{every_asked, from_zero}
use Rattle.sizes.proofs.Limits.{allowed_rows}
use Rattle.verifier_refusals.specs.Lent.{lent_rows}
use Rattle.row_equations.specs.Given.{RoundGiven}
use Rattle.row_equations.proofs.round_holds.Goals as goal
use Rattle.row_equations.proofs.round_holds.Goals.{then-n-gt-ROWS-via-then-n-gt-ROWS, then-n-gt-ROWS-via-else-n-gt-ROWS+then-step-gt-WIDTH, then-n-gt-ROWS-via-else-n-gt-ROWS+else-step-gt-WIDTH+then-claims-ne-ROWS_WIDTH}

pub returns-then-n-gt-ROWS : goal.returns-then-n-gt-ROWS
returns-then-n-gt-ROWS c = λ g h.
    absurd (elim c.then-n-gt-ROWS.branch [
      | then-n-gt-ROWS-via-then-n-gt-ROWS w ↦ omega (arith, allowed_rows _ g.allowed)
      | then-n-gt-ROWS-via-else-n-gt-ROWS+then-step-gt-WIDTH w ↦ omega (arith, g.first.near)
      | then-n-gt-ROWS-via-else-n-gt-ROWS+else-step-gt-WIDTH+then-claims-ne-ROWS_WIDTH w ↦ omega (arith, h)
    ])

pub returns : goal.returns
returns c = λ g h.
    let a = c.args in
    let S = a.settings in
    let known : RoundGiven S a.step (length a.c0.now) (length a.c2.now) = g in
    let f : ℕ → Bool = λ i. transcript.round_holds S (value_row a.claims.now i) (residue (value_row (lent_rows S a.step a.c0.now) i)) (residue (value_row (lent_rows S a.step a.c2.now) i)) in
    every_asked S.rows f c.all.result (cases_from_all _ _ _ (λ i. f i ≡ true) (λ i. f i ≡ false) c.all.ensures.ran (from_zero S.rows refl) (λ x q k. search (rules, tests)) (λ x q k. search (rules, tests)))
