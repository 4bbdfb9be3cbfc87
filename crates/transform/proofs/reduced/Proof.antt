use Rattle.std.proofs.Common.{◌≡◌, ◌-◌, ◌*◌, ◌/◌, ◌%◌, pos, ◌+ℤ◌, arith, to_z-of_z, w32, w64, SFits, to_z, of_z, rules}
use Rattle.transform.proofs.Reducing.{stands-for, moved, moved_is, moved-below, moved-residue, wide_back}
use Rattle.transform.proofs.reduced.Statement.{statement}
use Rattle.transform.proofs.reduced.Tie as tie

sum : (c : tie.Start) → to_z w64 (of_z w64 (to_z w32 (of_z w32 c.args.x))) +ℤ pos 4295041030 ≡ pos (moved c.args.x)
sum c = rw (wide_back c.args.x c.ranges.x) (moved_is c.args.x c.ranges.x.sfits)

sum_fits : (c : tie.Start) → SFits w64 (pos (moved c.args.x))
sum_fits c = record { sfits = omega (arith, moved-below c.args.x c.ranges.x.sfits) }

overflow_cast-t : tie.Need-overflow_cast-t
overflow_cast-t c = rw (to_z-of_z c.ranges.x) (record { sfits = omega (arith, c.ranges.x.sfits) })

overflow_add-t : tie.Need-overflow_add-t
overflow_add-t c = rw (sum c) (sum_fits c)

overflow_cast-t-2 : tie.Need-overflow_cast-t-2
overflow_cast-t-2 c = rw (sum c, to_z-of_z (sum_fits c)) (tt, omega (arith, moved-below c.args.x c.ranges.x.sfits))

returns : tie.Need-returns
returns c =
    let t = moved c.args.x % 262144 in
    rw (sum c, to_z-of_z (sum_fits c)) (omega arith, λ h. stands-for c.args.x _ (moved-residue c.args.x (t - t * 5 / 65536 * 12289) (t * 5 / 65536) h (omega arith)))

pub reduced_spec : {M : Type 1} → statement M
reduced_spec =
    tie.close
    (tie.spec overflow_cast-t overflow_add-t overflow_cast-t-2 (λ c. search rules) (λ c. search rules) (λ c. search rules) (λ c. search rules) (λ c. search rules)
    (λ c. search rules) (λ c. search rules) returns)
