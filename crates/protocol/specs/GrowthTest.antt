-- Refusal 14's test in numbers that stay small: (8·d²)^L·B, multiplied factor by factor, and held at one past the limit as soon as it is past it.
--
--   capped_times c f g      g·f where that is at most c, else c + 1
--   capped_power c f b n    f^n·b so computed
--   capped_growth S         (8·d²)^L·B so computed, with the limit 2^62
use Rattle.std.specs.Prelude.{ℕ, zero, suc, ◌*◌, ◌/◌, leb}
use Rattle.protocol.specs.declared.Settings.{Settings}
use Rattle.protocol.specs.Basic.{choose}
use Rattle.protocol.specs.Tree.{growth_factor, growth_limit}

unfoldable pub capped_times : ℕ → ℕ → ℕ → ℕ
capped_times c f g = choose (leb g (c / f)) (g * f) (suc c)

unfoldable pub capped_power : ℕ → ℕ → ℕ → ℕ → ℕ
capped_power c f b zero = b
capped_power c f b (suc n) = capped_times c f (capped_power c f b n)

unfoldable pub capped_growth : Settings → ℕ
capped_growth S = capped_power growth_limit (growth_factor S.degree) S.bound S.depth
