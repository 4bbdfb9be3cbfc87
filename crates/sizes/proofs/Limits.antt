-- How large the numbers of allowed settings are.
use mathlib.Core.Path.{◌≡◌, sym, subst}
use Prim.Native.Nat.{◌≤◌}
use native.Mathlib.Nat as Nat
use native.Mathlib.Omega.{arith}
use lib.Pow as Pow
use Rattle.protocol.specs.declared.Settings.{Settings}
use Rattle.protocol.specs.Settings.{size, cells, settings_refusal}
use Rattle.protocol.specs.Layout.{width, rows_most}
use Rattle.sizes.specs.Most.{elements_most, cells_most}
use Rattle.protocol.specs.Inputs.{Valid}
use Rattle.protocol.proofs.Inputs as inputs

module _ (S : Settings) (ok : Valid S) where
  pub degree_least : 2 ≤ S.degree
  degree_least = subst (λ n. 2 ≤ n) (sym ok.degree_is) (Pow.pow_mono {i = 1} ok.log_least)

  pub degree_most : S.degree ≤ width
  degree_most = inputs.degree_most S ok

  pub cells_most_lem : cells S ≤ cells_most
  unfolding cells size
  cells_most_lem = Nat.mul-le-mul {n₂ = elements_most} {m₂ = width} (Pow.pow_mono {j = 8} ok.depth_most) degree_most

  -- a table has a first element
  pub degree-inside : S.degree ≤ cells S
  unfolding cells size
  degree-inside = omega (arith, Nat.mul-le-mul_right S.degree (Pow.pow_pos S.depth), Nat.one-mul S.degree)

module _ (S : Settings) (e : settings_refusal S ≡ 0) where
  pub allowed_degree : (S.degree ≤ width) × (2 ≤ S.degree)
  allowed_degree = let ok = inputs.settings-valid S e in (degree_most S ok, degree_least S ok)

  pub allowed_depth : S.depth ≤ 8
  allowed_depth = (inputs.settings-valid S e).depth_most

  pub allowed_bound : S.bound ≤ 127
  allowed_bound = (inputs.settings-valid S e).bound_most

  pub allowed_rows : S.rows ≤ rows_most
  allowed_rows = (inputs.settings-valid S e).rows_most_holds
