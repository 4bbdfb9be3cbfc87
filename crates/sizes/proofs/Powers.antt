-- Powers of three, and a product that is held at one past the limit.
use Rattle.std.proofs.Common.{◌≡◌, ℕ, ◌+◌, ◌*◌, ◌^◌, ◌-◌, ◌/◌, ◌<◌, ◌≤◌, Bool, true, false, refl, arith, leb}
use Prim.Native.Nat.{min}
use Rattle.std.proofs.lemmas.Bool.{leb-true, leb-false}
use native.Mathlib.Nat as Nat
use Rattle.protocol.specs.Basic.{choose}
use Rattle.protocol.specs.Tree.{growth_limit}
use Rattle.protocol.specs.GrowthTest.{capped_times}
use Rattle.sizes.specs.Most.{leaves_most}

pub power_most : (n : ℕ) → n ≤ 8 → (1 ≤ 3 ^ n) × (3 ^ n ≤ leaves_most)
power_most n h = (Nat.one-le-pow n 3 (omega arith), Nat.pow-le-pow_right {n = 3} (omega arith) {i = n} {j = 8} (omega arith))

-- the quotient decides whether the product is past the limit
pub capped : (f g : ℕ) → 0 < f → min (min (g * f) 18446744073709551615) 4611686018427387905 ≡ capped_times growth_limit f g
unfolding capped_times growth_limit choose
capped f g some = go (leb g (2 ^ 62 / f)) refl
  where
    go : (b : Bool) → leb g (2 ^ 62 / f) ≡ b → min (min (g * f) (2 ^ 64 - 1)) (2 ^ 62 + 1) ≡ choose b (g * f) (2 ^ 62 + 1)
    go true e = let most : g * f ≤ 2 ^ 62 = (Nat.le-div_iff_mul-le some).0 (leb-true _ _ e) in omega arith
    go false e = let past : 2 ^ 62 < g * f = (Nat.div-lt_iff_lt-mul some).0 (leb-false _ _ e) in omega arith
