use mathlib.Core.Path.{sym, ap, ◌∙◌, subst}
use Prim.Native.Nat.{◌*◌}
use native.Mathlib.Omega.{arith}
use Rattle.residues.proofs.Parts.{tail-length}
use Rattle.half_sums.specs.Halves.{keys_of}
use Rattle.strands.specs.Strands.{KeyGiven}
use Rattle.strands.proofs.Weaving.{woven_more, sums_at, sums-are, part_is, part-long, place_most}
use borrow.Author.Rules.{rules}
use Rattle.strands.proofs.weave_key.Statement.{statement}
use Rattle.strands.proofs.weave_key.Tie as tie

overflow_mul-at : tie.Need-overflow_mul-at
overflow_mul-at c = omega (arith, place_most c.args.d c.args.n c.args.i c.requires.3 c.requires.2 (omega (arith, c.requires.4)))

overflow_mul-n : tie.Need-overflow_mul-n
overflow_mul-n c = omega (arith, place_most c.args.d c.args.n c.args.n c.requires.3 c.requires.2 (omega arith))

overflow_add-n : tie.Need-overflow_add-n
overflow_add-n c =
    omega (
      arith,
      place_most c.args.d c.args.n c.args.n c.requires.3 c.requires.2 (omega arith),
      place_most c.args.d c.args.n c.args.i c.requires.3 c.requires.2
          (omega (arith, c.requires.4)),
    )

returns-then-sums : tie.Need-returns-then-sums
returns-then-sums c = λ F z.
    let s = c in
    let a = s.args in
    let t = c.if-sums.true in
    let given = subst (λ b. KeyGiven b a.q a.d a.n a.g.now) t z.0 in
    let sum = c.add_key.ensures a.n a.i (sums_at a.q a.d a.n a.i a.g.now s.requires.4 given, z.1) in
    woven_more a.strands a.r a.d s.requires.1 F _ a.k.now _ z.3 (c.weave.ensures
    (omega (arith, z.1, c.add_key.auto.k)))
    (λ j l. sums-are a.q a.d a.n a.i a.g.now s.requires.4 _ sum j l ∙ ap (λ b. keys_of b a.q a.d a.n a.g.now a.i j) (sym t) ∙ z.2 j l)

returns-then-g-at : tie.Need-returns-then-g-at
returns-then-g-at c = λ F z. let s = c in let a = s.args in
    absurd (omega (arith, part-long a.q a.d a.n a.i a.g.now s.requires.4 (subst (λ b. KeyGiven b a.q a.d a.n a.g.now) c.if-sums.false z.0)))

returns : tie.Need-returns
returns c = λ F z.
    let s = c in
    let a = s.args in
    let t = c.if-sums.false in
    let given = subst (λ b. KeyGiven b a.q a.d a.n a.g.now) t z.0 in
    woven_more a.strands a.r a.d s.requires.1 F _ a.k.now _ z.3
    (c.weave-2.ensures (omega (arith, part-long a.q a.d a.n a.i a.g.now s.requires.4 given, tail-length (a.i * a.d) a.g.now)))
    (λ j l. part_is a.q a.d a.n a.i a.g.now s.requires.4 j l ∙ ap (λ b. keys_of b a.q a.d a.n a.g.now a.i j) (sym t) ∙ z.2 j l)

pub weave_key_spec : {M : Type 1} → statement M
weave_key_spec =
    tie.close
    (tie.spec overflow_mul-at overflow_mul-n overflow_add-n (λ c κs. search rules) (λ c κs. search rules) (λ c. search) (λ c. search) returns-then-sums returns-then-g-at (λ c. search rules) (λ c. search rules)
    (λ c. search rules) (λ c. search rules) (λ c κs. search rules) (λ c. search) returns)
