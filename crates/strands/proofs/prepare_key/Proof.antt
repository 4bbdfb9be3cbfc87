use mathlib.Core.Path.{sym, ap, ◌∙◌, subst}
use Prim.Native.Nat.{◌*◌}
use native.Mathlib.Omega.{arith}
use Rattle.residues.proofs.Parts.{tail-length}
use Rattle.half_sums.specs.Halves.{keys_of}
use Rattle.strands.specs.Strands.{KeyGiven}
use Rattle.strands.proofs.Weaving.{prepared_same, sums-below, part-below, sums_at, sums-are, part_is, part-long, place_most}
use borrow.Author.Rules.{rules}
use Rattle.strands.proofs.prepare_key.Statement.{statement}
use Rattle.strands.proofs.prepare_key.Tie as tie

overflow_mul-at : tie.Need-overflow_mul-at
overflow_mul-at c = omega (arith, place_most c.args.d c.args.n c.args.i c.requires.1 c.requires.0 (omega (arith, c.requires.2)))

overflow_mul-n : tie.Need-overflow_mul-n
overflow_mul-n c = omega (arith, place_most c.args.d c.args.n c.args.n c.requires.1 c.requires.0 (omega arith))

overflow_add-n : tie.Need-overflow_add-n
overflow_add-n c =
    omega (
      arith,
      place_most c.args.d c.args.n c.args.n c.requires.1 c.requires.0 (omega arith),
      place_most c.args.d c.args.n c.args.i c.requires.1 c.requires.0
          (omega (arith, c.requires.2)),
    )

returns-then-sums : tie.Need-returns-then-sums
returns-then-sums c = λ z.
    let s = c in
    let a = s.args in
    let t = c.if-sums.true in
    let given = subst (λ b. KeyGiven b a.q a.d a.n a.g.now) t z.0 in
    let sum = c.add_key.ensures a.n a.i (sums_at a.q a.d a.n a.i a.g.now s.requires.2 given, z.1) in
    prepared_same a.q a.d given.degree _
    (λ j l. sums-are a.q a.d a.n a.i a.g.now s.requires.2 _ sum j l ∙ ap (λ b. keys_of b a.q a.d a.n a.g.now a.i j) (sym t))
    (c.prepare.ensures record {
      degree = given.degree;
      degree_most = omega (arith, given.degree_most);
      coefficients = omega (arith, z.1, c.add_key.auto.k);
      residues = sums-below a.q a.d a.n a.i a.g.now s.requires.2 given _ sum;
      places = z.2;
    })

returns-then-g-at : tie.Need-returns-then-g-at
returns-then-g-at c = λ z. let s = c in let a = s.args in
    absurd (omega (arith, part-long a.q a.d a.n a.i a.g.now s.requires.2 (subst (λ b. KeyGiven b a.q a.d a.n a.g.now) c.if-sums.false z.0)))

returns : tie.Need-returns
returns c = λ z.
    let s = c in
    let a = s.args in
    let t = c.if-sums.false in
    let given = subst (λ b. KeyGiven b a.q a.d a.n a.g.now) t z.0 in
    prepared_same a.q a.d given.degree _
    (λ j l. part_is a.q a.d a.n a.i a.g.now s.requires.2 j l ∙ ap (λ b. keys_of b a.q a.d a.n a.g.now a.i j) (sym t))
    (c.prepare-2.ensures record {
      degree = given.degree;
      degree_most = omega (arith, given.degree_most);
      coefficients = omega (arith, part-long a.q a.d a.n a.i a.g.now s.requires.2 given, tail-length (a.i * a.d) a.g.now);
      residues = part-below a.q a.d a.n a.i a.g.now s.requires.2 given;
      places = z.2;
    })

pub prepare_key_spec : {M : Type 1} → statement M
prepare_key_spec =
    tie.close
    (tie.spec overflow_mul-at overflow_mul-n overflow_add-n (λ c κs. search rules) (λ c κs. search rules) (λ c. search) (λ c. search) returns-then-sums returns-then-g-at (λ c. search rules) (λ c. search rules)
    (λ c. search rules) (λ c. search rules) (λ c κs. search rules) (λ c. search) returns)
