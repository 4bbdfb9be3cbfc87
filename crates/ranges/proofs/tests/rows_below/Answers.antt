use Rattle.std.proofs.Common.{◌≡◌, ◌≤◌, ℕ, Bool, true, false, length, refl, rules, ltb, slice_index}
use Rattle.std.proofs.lemmas.Iterator.{cases_from_all}
use borrow.Author.Tests.{tests}
use Rattle.protocol.specs.Basic.{every}
use Rattle.protocol.specs.Element.{value_row}
use Rattle.protocol.specs.Layout.{width, rows_width}
use Rattle.protocol.proofs.Chains.{every_asked, from_zero}
use Rattle.ranges.proofs.tests.rows_below.Goals as goal

pub returns : goal.returns
returns c = λ h.
    let known : (c.args.d ≤ width) × (length c.args.a.now ≡ rows_width) = (h.0, h.2) in
    let f : ℕ → Bool = λ i. every c.args.d (λ k. ltb (slice_index (value_row c.args.a.now i) k) c.args.limit) in
    every_asked c.args.rows f c.all.result (cases_from_all _ _ _ (λ i. f i ≡ true) (λ i. f i ≡ false) c.all.ensures.ran (from_zero c.args.rows refl) (λ x q k. search (rules, tests)) (λ x q k. search (rules, tests)))
