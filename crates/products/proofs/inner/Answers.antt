use mathlib.Core.Path.{◌∙◌}
use native.Mathlib.Omega.{arith}
use Rattle.std.proofs.Common.{replicate}
use Rattle.protocol.specs.Element.{width, zeros, signed_at, residue_at}
use Rattle.protocol.specs.Opening.{inner}
use Rattle.half_sums.specs.Halves.{messages_of, keys_of}
use Rattle.plain_products.proofs.Rows.{row_given, by_one_row, one_row_lem}
use Rattle.products.proofs.inner.Goals as goal

pub returns : goal.returns
unfolding zeros messages_of keys_of
returns c = λ z.
    let a = c.args in
    by_one_row c.of_one_row.result a.q a.d a.n c.of_one_row.ensures a.f.now a.g.now (replicate width 0) _ c.inner_rows.ensures (λ _. a.g.now) (row_given a.q a.d a.n a.f.now a.g.now z, omega (arith, z.elements.degree_most))
    ∙ one_row_lem a.q a.d (inner a.d a.n (signed_at a.d a.f.now) (residue_at a.d a.g.now))
