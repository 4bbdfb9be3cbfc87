use Rattle.std.proofs.Common.{sym, ◌∙◌, arith, rules}
use native.Mathlib.Nat as Nat
use Rattle.transform.proofs.Sums.{front_long, element_back}
use Rattle.transform.proofs.finish.Statement.{statement}
use Rattle.transform.proofs.finish.Tie as tie

returns-then-d-eq0 : tie.Need-returns-then-d-eq0
returns-then-d-eq0 c = λ F count p. absurd (omega (arith, p.1, Nat.one-le-pow c.args.level 2 (omega arith)))

returns-then-d-gt-WIDTH : tie.Need-returns-then-d-gt-WIDTH
returns-then-d-gt-WIDTH c = λ F count p. absurd (omega (arith, p.1, Nat.pow-le-pow_right {n = 2} (omega arith) {i = c.args.level} {j = 7} p.0))

returns-then-sums-d : tie.Need-returns-then-sums-d
returns-then-sums-d c = λ F count p. absurd (omega (arith, p.1, p.2.long))

slice_bounds-bring_back-end : tie.Need-slice_bounds-bring_back-end
slice_bounds-bring_back-end c = sym (front_long _ (omega arith))

bring_back-requires : tie.Need-bring_back-requires
bring_back-requires c κs = omega (arith, front_long c.args.d (omega arith))

returns : tie.Need-returns
returns c = λ F count p.
    let a = c.args in
    c.divided.ensures
    ∙ element_back a.level a.d p.0 p.1 F _ _ (c.bring_back.ensures F count (p.0, front_long a.d (omega arith) ∙ p.1, p.2))

pub finish_spec : {M : Type 1} → statement M
finish_spec =
    tie.close
    (tie.spec returns-then-d-eq0 returns-then-d-gt-WIDTH returns-then-sums-d (λ c. search rules) slice_bounds-bring_back-end bring_back-requires (λ c κs. search rules) returns)
