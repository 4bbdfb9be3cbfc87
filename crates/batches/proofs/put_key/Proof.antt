use mathlib.Core.Path.{ap, ◌∙◌, subst}
use native.Mathlib.Omega.{arith}
use Rattle.protocol.proofs.Reading.{row_inside}
use Rattle.half_sums.specs.Halves.{keys_of}
use Rattle.batches.specs.Batches.{KeyGiven}
use Rattle.batches.proofs.Batching.{key_at, key-placed, key-sum-placed, sums-size, table-size, least_size}
use borrow.Author.Rules.{rules}
use Rattle.batches.proofs.put_key.Statement.{statement}
use Rattle.batches.proofs.put_key.Tie as tie

overflow_mul-at : tie.Need-overflow_mul-at
overflow_mul-at c = let a = c.args in
    omega (arith, row_inside a.d a.n a.i c.requires.0, least_size a.sums a.d a.n, c.requires.2)

overflow_mul-n : tie.Need-overflow_mul-n
overflow_mul-n c = let a = c.args in
    let s = c.requires in
    let e = sums-size a.sums c.if-sums.true a.d a.n in
    omega (arith, row_inside a.d a.n a.i s.0, e, s.2)

overflow_add-n : tie.Need-overflow_add-n
overflow_add-n c = let a = c.args in
    let s = c.requires in
    let e = sums-size a.sums c.if-sums.true a.d a.n in
    omega (arith, row_inside a.d a.n a.i s.0, e, s.2)

offset_bounds-g-at : tie.Need-offset_bounds-g-at
offset_bounds-g-at c = let a = c.args in
    let s = c.requires in
    let e = table-size a.sums c.if-sums.false a.d a.n in
    omega (arith, row_inside a.d a.n a.i s.0, e, s.2)

slice_bounds-place_residues-count : tie.Need-slice_bounds-place_residues-count
slice_bounds-place_residues-count c = let a = c.args in
    let s = c.requires in
    let e = table-size a.sums c.if-sums.false a.d a.n in
    omega (arith, row_inside a.d a.n a.i s.0, e, s.2)

slice_bounds-place_residues-start : tie.Need-slice_bounds-place_residues-start
slice_bounds-place_residues-start c = let a = c.args in
    let s = c.requires in
    let e = table-size a.sums c.if-sums.false a.d a.n in
    omega (arith, row_inside a.d a.n a.i s.0, e, s.2)

returns-then-sums : tie.Need-returns-then-sums
returns-then-sums c = λ D G z.
    let a = c.args in
    let t = c.if-sums.true in
    let given = subst (λ b. KeyGiven b a.d a.n a.g.now) t z.0 in
    let is = z.3 ∙ ap (λ b. keys_of b 12289 a.d a.n a.g.now a.i) t in
    let sum = c.add_key.ensures a.n a.i (
      key_at D a.d a.n a.i a.l z.1 c.requires.0 z.2 a.g.now G _
          z.4 given,
      omega (
        arith,
        c.requires.1,
        c.requires.3,
      ),
    ) in
    c.place_residues.ensures D G (key-sum-placed D a.d a.n a.i a.l z.1
    c.requires.0 z.2 a.g.now G _ z.4 is _ sum
    (omega (
      arith,
      c.requires.1,
      c.requires.3,
      c.add_key.auto.k,
    )))

returns-else-sums : tie.Need-returns-else-sums
returns-else-sums c = λ D G z.
    let a = c.args in
    let t = c.if-sums.false in
    let given = subst (λ b. KeyGiven b a.d a.n a.g.now) t z.0 in
    let is = z.3 ∙ ap (λ b. keys_of b 12289 a.d a.n a.g.now a.i) t in
    c.place_residues-else-sums.ensures D G (key-placed D a.d a.n a.i a.l z.1 c.requires.0
    z.2 a.g.now G _ z.4 given is)

pub put_key_spec : {M : Type 1} → statement M
put_key_spec =
    tie.close
    (tie.spec overflow_mul-at overflow_mul-n overflow_add-n (λ c κs. search rules) (λ c κs. search rules) offset_bounds-g-at slice_bounds-place_residues-count slice_bounds-place_residues-start (λ c. search rules)
    (λ c κs. search rules) (λ c. search rules) (λ c. search rules) returns-then-sums (λ c. search rules) returns-else-sums)
