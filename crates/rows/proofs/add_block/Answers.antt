use Rattle.std.proofs.Common.{◌≡◌, ℕ, ◌+◌, ◌*◌, get_or, ℤ, pos, nat_abs, ap, ◌∙◌, arith, w32, SFits, to_z, of_z, to_z-of_z, rules}
use Rattle.rows.specs.Rows.{narrowed, start, add_row, add_four}
use Rattle.rows.proofs.Rows.{begins_most, row_inside, cells_most_lem}
use Rattle.rows.proofs.add_block.Goals as goal

-- a coefficient is read from its bits
size : (z : ℤ) → SFits w32 z → (r : ℕ) → r ≡ nat_abs (to_z w32 (of_z w32 z)) → r ≡ nat_abs z
size z fits r e = e ∙ ap nat_abs (to_z-of_z {w = w32} fits)

begin : (z : ℤ) → SFits w32 z → (n at r : ℕ) → r ≡ start n (to_z w32 (of_z w32 z)) at → r ≡ start n z at
begin z fits n at r e = e ∙ ap (λ z. start n z at) (to_z-of_z {w = w32} fits)

pub row_of-r2-requires : goal.row_of-r2-requires
row_of-r2-requires c = let a = c.args in let r = c.requires.0 in (cells_most_lem a.strands a.d r.strands r.degree, row_inside a.strands a.d (a.j + 2) r.some (omega (arith, c.requires.1)))

pub row_of-r3-requires : goal.row_of-r3-requires
row_of-r3-requires c = let a = c.args in let r = c.requires.0 in (cells_most_lem a.strands a.d r.strands r.degree, row_inside a.strands a.d (a.j + 3) r.some (omega (arith, c.requires.1)))

pub add_four-requires : goal.add_four-requires
add_four-requires c =
    let r = c.requires.0 in (
      omega (arith, begins_most _ _ _ c.row_of-r0.ensures.1, r.residues),
      omega (arith, begins_most _ _ _ c.row_of-r1.ensures.1, r.residues),
      omega (arith, begins_most _ _ _ c.row_of-r2.ensures.1, r.residues),
      omega (arith, begins_most _ _ _ c.row_of-r3.ensures.1, r.residues),
      r.sums,
    )

pub returns : goal.returns
unfolding add_four
returns c =
    let a = c.args in
    let x = narrowed a.x.now in
    let n = a.d * a.strands in
    let f : ℕ → ℤ = λ i. get_or a.f.now i (pos 0) in
    let s0 = size (f a.j) (search rules) _ c.row_of-r0.ensures.0 in
    let s1 = size (f (a.j + 1)) (search rules) _ c.row_of-r1.ensures.0 in
    let s2 = size (f (a.j + 2)) (search rules) _ c.row_of-r2.ensures.0 in
    let s3 = size (f (a.j + 3)) (search rules) _ c.row_of-r3.ensures.0 in
    let b0 = begin (f a.j) (search rules) n (a.j * a.strands) _ c.row_of-r0.ensures.1 in
    let b1 = begin (f (a.j + 1)) (search rules) n ((a.j + 1) * a.strands) _ c.row_of-r1.ensures.1 in
    let b2 = begin (f (a.j + 2)) (search rules) n ((a.j + 2) * a.strands) _ c.row_of-r2.ensures.1 in
    let b3 = begin (f (a.j + 3)) (search rules) n ((a.j + 3) * a.strands) _ c.row_of-r3.ensures.1 in
    c.add_four.ensures ∙ λ i. add_row n (s3 i) (b3 i) x (add_row n (s2 i) (b2 i) x (add_row n (s1 i) (b1 i) x (add_row n (s0 i) (b0 i) x a.sums.now)))
