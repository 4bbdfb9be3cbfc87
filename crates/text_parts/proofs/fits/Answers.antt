-- Every table is asked.
use Rattle.std.proofs.Common.{◌≡◌, ◌+◌, ℕ, Bool, true, false, eqb, get_or, refl, rules}
use Rattle.std.proofs.lemmas.Iterator.{cases_from_all}
use borrow.Author.Tests.{tests}
use Rattle.text_format.specs.Text.{shape_size}
use Rattle.protocol.proofs.Chains.{every_asked, from_zero}
use Rattle.text_parts.specs.Parts.{table_count, part_of, lengths_are}
use Rattle.text_parts.proofs.fits.Goals as goal

pub returns : goal.returns
unfolding lengths_are
returns c =
    let a = c.args in
    let f : ℕ → Bool = λ k. eqb (get_or a.lengths k 0) (shape_size (part_of a.settings a.parts (k + 1))) in
    every_asked table_count f c.all.result (cases_from_all _ _ _ (λ k. f k ≡ true) (λ k. f k ≡ false) c.all.ensures.ran (from_zero table_count refl) (λ x q k. search (rules, tests)) (λ x q k. search (rules, tests)))
