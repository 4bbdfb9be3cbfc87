use mathlib.Core.Path.{sym}
use native.Mathlib.Nat.{le_refl}
use native.Mathlib.Omega.{arith}
use Rattle.protocol.proofs.Inputs.{settings-valid, degree_most}
use Rattle.equations.proofs.Items.{start-inside, start-end}
use Rattle.equations.proofs.rounds.row_start.Goals as goal

pub returns-then-d-gt-WIDTH : goal.returns-then-d-gt-WIDTH
returns-then-d-gt-WIDTH c = (λ e _. absurd (omega (arith, degree_most _ (settings-valid _ e))), le_refl _)

pub returns-then-i-ge-ROWS : goal.returns-then-i-ge-ROWS
returns-then-i-ge-ROWS c = (λ e h. absurd (omega (arith, h, (settings-valid _ e).rows_most_holds)), le_refl _)

pub returns-then-at-n : goal.returns-then-at-n
returns-then-at-n c = let a = c.args in ((λ e h. sym (start-end a.settings a.n a.i c.if-at-n.true)), le_refl _)

pub returns : goal.returns
returns c = let a = c.args in ((λ e h. sym (start-inside a.settings a.n a.i c.if-at-n.false)), omega arith)
