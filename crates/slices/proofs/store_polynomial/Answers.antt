use Rattle.std.proofs.Common.{◌≡◌, ◌∙◌, ℕ, ◌*◌, ◌/◌, ◌%◌, [], arith, get_or}
use Rattle.protocol.specs.Basic.{flat}
use Rattle.protocol.specs.Element.{value_row}
use Rattle.protocol.specs.Layout.{item_cells}
use Rattle.protocol.specs.Rows.{together}
use Rattle.protocol.specs.Session.{part}
use Rattle.residues.specs.Lists.{spliced}
use Rattle.sizes.proofs.Limits.{allowed_degree, allowed_rows}
use Rattle.slices.specs.Slices.{laid}
use Rattle.slices.proofs.Elements.{stored-three}
use Rattle.slices.proofs.store_polynomial.Goals as goal

pub returns : goal.returns
unfolding laid together flat part
returns c = λ ok long.
    let x = c.args in
    let S = x.settings in
    let n = item_cells S in
    let wide = (allowed_degree S ok).0 in
    let few = allowed_rows S ok in
    let f : ℕ → ℕ → ℕ = λ j p. get_or (value_row (get_or x.p.now j []) (p / S.degree)) (p % S.degree) 0 in
    let is : c.item_cells-n.result ≡ n = c.item_cells-n.ensures.0 ok in
    let kept = c.lay_rows.auto.out in
    let at_first = c.lay_rows.ensures (wide, few, omega arith, omega (arith, long)) in
    let at_second = c.lay_rows-2.ensures (wide, few, omega arith, omega (arith, long, is, kept)) in
    c.lay_rows-3.ensures (wide, few, omega arith, omega (arith, long, is, kept, c.lay_rows-2.auto.out))
    ∙ (λ i. spliced (f 2) (2 * is i) n ((at_second ∙ (λ j. spliced (f 1) (is j) n (at_first j))) i))
    ∙ stored-three n (f 0) (f 1) (f 2) x.out.now long
