-- How far m coefficients of each of h elements reach, and what it asks of a table that numbers are added in one slice.
use Rattle.std.proofs.Common.{◌≡◌, ℕ, ◌+◌, ◌-◌, ◌*◌, ◌<◌, ◌≤◌, ap, arith}
use native.Mathlib.Nat as Nat
use Rattle.residues.specs.Places.{Grid, Apart}

module _ (d h m from to long : ℕ) where
  module _ (rows : 0 < h) (some : 0 < m) where
    rest : (h - 1) * d + d ≡ h * d
    rest = omega (arith, Nat.add-mul (h - 1) 1 d, ap (λ n. n * d) {x = h - 1 + 1} {y = h} (omega arith))

    pub one_row : d ≤ h * d
    one_row = omega (arith, rest)

    origin : Grid m 1 d h 0
    origin = (0, rows, (0, some, omega arith))

    corner : Grid m 1 d h ((h - 1) * d + (m - 1))
    corner = (h - 1, omega arith, (m - 1, omega arith, omega arith))

    pub reached : Apart (Grid m 1 d h) from to long → (from + (h * d + m) ≤ long + d) × (to + (h * d + m) ≤ from + d)
    reached p = (omega (arith, p.inside _ corner, rest), omega (arith, p.before _ _ corner origin, rest))
