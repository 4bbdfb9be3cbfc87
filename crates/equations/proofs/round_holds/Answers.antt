use Rattle.std.proofs.Common.{◌≡◌, ◌+◌, ◌*◌, ◌%◌, ℕ, Bool, true, false, refl, eqb, get_or, arith, rules}
use Rattle.std.proofs.lemmas.Iterator.{cases_from_all}
use borrow.Author.Tests.{tests}
use Rattle.protocol.specs.Element.{modulo, residue}
use Rattle.protocol.specs.Transcript.{doubled, round_holds}
use Rattle.protocol.proofs.Chains.{every_asked, from_zero}
use Rattle.equations.proofs.Ready.{ready}
use Rattle.equations.proofs.round_holds.Goals as goal

pub returns-then-q-eq0 : goal.returns-then-q-eq0
returns-then-q-eq0 c = λ g. absurd (let r = ready _ g.allowed in omega arith)

pub returns : goal.returns
unfolding round_holds doubled modulo residue
returns c = λ g.
    let a = c.args in
    let f : ℕ → Bool = λ k. eqb (2 * (get_or a.c0.now k 0 + get_or a.c2.now k 0) % a.settings.modulus) (get_or a.claim.now k 0) in
    every_asked a.settings.degree f c.all.result
    (cases_from_all _ _ _ (λ k. f k ≡ true) (λ k. f k ≡ false) c.all.ensures.ran (from_zero a.settings.degree refl) (λ k q x. search (rules, tests)) (λ k q x. search (rules, tests)))
