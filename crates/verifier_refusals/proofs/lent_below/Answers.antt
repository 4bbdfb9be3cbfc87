use Rattle.std.proofs.Common.{◌≡◌, ◌∙◌, ◌+◌, ◌*◌, ℕ, Bool, true, false, length, refl, rules, arith, ltb, get_or}
use Rattle.std.proofs.lemmas.Iterator.{cases_from_all}
use borrow.Author.Tests.{tests}
use Rattle.protocol.specs.Basic.{every}
use Rattle.protocol.specs.Settings.{settings_refusal}
use Rattle.protocol.proofs.Chains.{every_asked, from_zero}
use Rattle.sizes.proofs.Limits.{allowed_rows}
use Rattle.verifier_refusals.specs.Lent.{RowsLent}
use Rattle.verifier_refusals.proofs.Lent.{lent_residues}
use Rattle.verifier_refusals.proofs.lent_below.Goals as goal
use Rattle.verifier_refusals.proofs.lent_below.Goals.{then-n-gt-ROWS-via-then-n-gt-ROWS, then-n-gt-ROWS-via-else-n-gt-ROWS+then-step-gt-WIDTH}

pub returns-then-n-gt-ROWS : goal.returns-then-n-gt-ROWS
returns-then-n-gt-ROWS c = λ ok l.
    absurd (elim c.then-n-gt-ROWS.branch [
      | then-n-gt-ROWS-via-then-n-gt-ROWS w ↦ omega (arith, allowed_rows _ ok)
      | then-n-gt-ROWS-via-else-n-gt-ROWS+then-step-gt-WIDTH w ↦ omega (arith, l.near)
    ])

pub returns : goal.returns
returns c = λ ok l.
    let a = c.args in
    let S = a.settings in
    let t = a.a.now in
    let known : (settings_refusal S ≡ 0) × RowsLent S a.step (length t) = (ok, l) in
    let f : ℕ → Bool = λ i. every S.degree (λ k. ltb (get_or t (i * a.step + k) 0) S.modulus) in
    every_asked S.rows f c.all.result (cases_from_all _ _ _ (λ i. f i ≡ true) (λ i. f i ≡ false) c.all.ensures.ran (from_zero S.rows refl) (λ x q k. search (rules, tests)) (λ x q k. search (rules, tests)))
    ∙ lent_residues S ok a.step t
