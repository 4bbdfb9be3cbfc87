-- The rotation is one row of the two copies.
use mathlib.Core.Path.{◌∙◌}
use borrow.Author.Rules.{rules}
use Rattle.extraction.proofs.Sums.{window_summable, window-rotated}
use Rattle.extraction.proofs.elements.add_rotated.Statement.{statement}
use Rattle.extraction.proofs.elements.add_rotated.Tie as tie

add_row-requires : tie.Need-add_row-requires
add_row-requires c κs =
    let r = c.row_start in let a = c.args in
    window_summable a.d c.requires.0 a.x.now a.out.now c.requires.4 c.requires.5 c.requires.3 a.e r.result c.requires.2 r.ensures.0 (r.ensures.1 c.requires.2)

returns : tie.Need-returns
returns c =
    let r = c.row_start in let a = c.args in
    c.add_row.ensures
    ∙ window-rotated a.d c.requires.0 a.x.now a.out.now c.requires.4 c.requires.5 c.requires.3 a.e r.result c.requires.2 r.ensures.0 (r.ensures.1 c.requires.2)

pub add_rotated_spec : {M : Type 1} → statement M
add_rotated_spec =
    tie.close
    (tie.spec (λ c κs. search rules) (λ c. search rules) (λ c. search rules) (λ c. search rules) (λ c. search rules) (λ c. search rules) add_row-requires
    (λ c. search rules) returns)
