use Rattle.std.proofs.Common.{◌≡◌, ◌≤◌, ◌<◌, ◌^◌, ℕ, Bool, true, false, refl, get_or, arith, rules}
use Rattle.std.proofs.lemmas.Iterator.{cases_from_all}
use borrow.Author.Tests.{tests}
use Rattle.protocol.proofs.Chains.{from_zero}
use Rattle.joins.specs.Sums.{Ready, Halves}
use Rattle.joins.proofs.Joining.{halves-within}
use Rattle.multiples.specs.Multiples.{multiple_is}
use Rattle.multiples.proofs.Asked.{every_inside}
use Rattle.multiples.proofs.sums_are.Goals as goal

pub returns : goal.returns
returns c = λ F count z.
    let a = c.args in
    let ready : Ready a.q c.prepare-joint.result = c.prepare-joint.ensures z.0 in
    let few : a.c ≤ 2 ^ 13 = z.3 in
    let within : (k : ℕ) → k < a.d → Halves a.q (F k) (2 ^ 61) (get_or a.s.now k 0) (get_or a.t.now k 0) =
    λ k l. halves-within a.q _ _ _ _ _ (omega (arith, z.1)) (z.2.each k l) in
    let f : ℕ → Bool = λ k. multiple_is a.q a.c (F k) (get_or a.a.now k 0) in
    every_inside a.d f c.all.result
    (cases_from_all _ _ _ (λ k. k < a.d → f k ≡ true) (λ k. k < a.d → f k ≡ false) c.all.ensures.ran (from_zero a.d refl) (λ k q x. search (rules, tests)) (λ k q x. search (rules, tests)))
