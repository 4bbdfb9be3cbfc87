use native.Mathlib.Omega.{arith}
use Rattle.product_sums.proofs.Standing.{lower-stand, both_stand}
use Rattle.product_sums.proofs.add_prepared.Goals as goal

pub returns-then-d-gt-WIDTH : goal.returns-then-d-gt-WIDTH
returns-then-d-gt-WIDTH c = λ F G count m z. absurd (omega (arith, z.0.degree_most))

pub returns-then-strands-gt-ROWS : goal.returns-then-strands-gt-ROWS
returns-then-strands-gt-ROWS c = λ F G count m z. absurd (omega (arith, z.0.strands))

-- in one run
pub returns-then-q-lt4294967296 : goal.returns-then-q-lt4294967296
returns-then-q-lt4294967296 c = λ F G count m z.
    let a = c.args in
    let ok = z.0 in
    lower-stand a.q a.strands a.d m a.f.now _ _ ok F G count a.x.now a.s.now a.t.now z.1 z.2 (omega arith) _
    (c.add_product.ensures (record { some = ok.some; strands = ok.strands; degree = ok.degree_most; coefficients = ok.long; residues = z.1.places; sums = ok.lowers }))

-- in two
pub returns : goal.returns
returns c = λ F G count m z.
    let a = c.args in
    let ok = z.0 in
    both_stand a.q a.strands a.d m a.f.now _ _ ok F G count a.x.now a.s.now a.t.now z.1 z.2 _ _ _
    (c.upper_halves.ensures z.1.places)
    (c.add_product.ensures
    (record { some = ok.some; strands = ok.strands; degree = ok.degree_most; coefficients = ok.long; residues = z.1.places; sums = ok.lowers }))
    (c.add_product-2.ensures (record {
      some = ok.some;
      strands = ok.strands;
      degree = ok.degree_most;
      coefficients = ok.long;
      residues = omega (arith, z.1.places);
      sums =
          ok.uppers;
    }))
