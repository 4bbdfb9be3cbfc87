use Rattle.std.proofs.Common.{◌∙◌, ap, arith}
use Rattle.protocol.specs.Element.{zeros}
use Rattle.sizes.proofs.Limits.{allowed_rows}
use Rattle.verifier.proofs.first_claims.Goals as goal
use Rattle.verifier.proofs.first_claims.Goals.{then-n-gt-ROWS-via-then-n-gt-ROWS, then-n-gt-ROWS-via-else-n-gt-ROWS+then-step-gt-WIDTH, then-n-gt-ROWS-via-else-n-gt-ROWS+else-step-gt-WIDTH+then-claims-ne-ROWS_WIDTH}

pub returns-then-n-gt-ROWS : goal.returns-then-n-gt-ROWS
returns-then-n-gt-ROWS c = λ g.
    absurd (elim c.then-n-gt-ROWS.branch [
      | then-n-gt-ROWS-via-then-n-gt-ROWS w ↦ omega (arith, allowed_rows _ g.0)
      | then-n-gt-ROWS-via-else-n-gt-ROWS+then-step-gt-WIDTH w ↦ omega (arith, g.1.near)
      | then-n-gt-ROWS-via-else-n-gt-ROWS+else-step-gt-WIDTH+then-claims-ne-ROWS_WIDTH w ↦ omega (arith, g.2)
    ])

pub returns : goal.returns
unfolding zeros
returns c = λ g. c.read_rows.ensures (g.0, g.1, c.fill.ensures.after (λ y e. e) ∙ ap zeros g.2)
