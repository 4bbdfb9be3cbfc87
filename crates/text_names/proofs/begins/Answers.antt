use Rattle.std.proofs.Common.{◌≡◌, ℕ, Bool, true, false, eqb, length, get_or, refl, sym, ◌∙◌, arith, rules}
use Rattle.std.proofs.lemmas.Iterator.{cases_from_all}
use borrow.Author.Tests.{tests}
use Rattle.protocol.proofs.Chains.{every_asked, from_zero}
use Rattle.text_names.proofs.Words.{begins-short, begins-every}
use Rattle.text_names.proofs.begins.Goals as goal

pub returns-then-text-with : goal.returns-then-text-with
returns-then-text-with c = sym (begins-short c.args.with.now c.args.text.now (omega arith))

pub returns : goal.returns
returns c =
    let a = c.args in
    let f : ℕ → Bool = λ i. eqb (get_or a.text.now i 0) (get_or a.with.now i 0) in
    every_asked (length a.with.now) f c.all.result (cases_from_all _ _ _ (λ i. f i ≡ true) (λ i. f i ≡ false) c.all.ensures.ran (from_zero (length a.with.now) refl) (λ x q k. search (rules, tests)) (λ x q k. search (rules, tests)))
    ∙ begins-every a.with.now a.text.now (omega arith)
