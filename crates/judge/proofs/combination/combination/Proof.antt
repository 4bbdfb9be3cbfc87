-- One digit of 32 bits where q has no more, else two.
use Rattle.judge.proofs.Sums.{modulus_given, degree-few, part-reduced, parts-joined, part_only}
use mathlib.Core.Path.{◌∙◌}
use Prim.Native.Nat.{◌^◌}
use native.Mathlib.Omega.{arith}
use borrow.Author.Rules.{rules}
use Rattle.judge.proofs.combination.combination.Statement.{statement}
use Rattle.judge.proofs.combination.combination.Tie as tie

returns-then-q-le-NARROW : tie.Need-returns-then-q-le-NARROW
returns-then-q-le-NARROW c = c.part-sums.ensures ∙ part_only c.args.settings c.args.key.now c.args.w.now c.requires (omega arith)

add_scaled-requires : tie.Need-add_scaled-requires
add_scaled-requires c κs =
    let a = c.args in
    let few = degree-few a.settings a.key.now a.w.now c.requires in (
      modulus_given a.settings a.key.now a.w.now c.requires,
      omega arith,
      omega (arith, few),
      omega (arith, few),
      part-reduced a.settings a.key.now a.w.now c.requires (2 ^ 32) _ c.part-upper.ensures,
      part-reduced a.settings a.key.now a.w.now c.requires 1 _ c.part-sums.ensures,
    )

returns : tie.Need-returns
returns c =
    let a = c.args in
    c.add_scaled.ensures ∙ parts-joined a.settings a.key.now a.w.now c.requires _ _ c.part-sums.ensures c.part-upper.ensures

pub combination_spec : {M : Type 1} → statement M
combination_spec =
    tie.close
    (tie.spec (λ c κs. search rules) returns-then-q-le-NARROW (λ c κs. search rules) (λ c. search rules) (λ c. search rules) (λ c. search rules) add_scaled-requires
    returns)
