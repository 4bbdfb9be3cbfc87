use Rattle.std.proofs.Common.{◌≡◌, ℕ, Bool, true, false, refl, rules}
use Rattle.std.proofs.lemmas.Iterator.{cases_from_all}
use borrow.Author.Tests.{tests}
use Rattle.protocol.specs.Element.{value_row}
use Rattle.protocol.specs.Judge.{opens}
use Rattle.protocol.specs.Rows.{key_row}
use Rattle.protocol.proofs.Chains.{every_asked, from_zero}
use Rattle.judge.proofs.key_rows.every_row_opens.Goals as goal

pub returns : goal.returns
returns c =
    let a = c.args in
    let f : ℕ → Bool = λ i. opens a.settings (key_row a.settings a.key.now i) (value_row a.commitment.now i) a.c a.w.now in
    every_asked a.settings.rows f c.all.result (cases_from_all _ _ _ (λ i. f i ≡ true) (λ i. f i ≡ false) c.all.ensures.ran (from_zero a.settings.rows refl) (λ x q k. search (rules, tests)) (λ x q k. search (rules, tests)))
