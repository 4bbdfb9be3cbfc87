-- Signed numbers without their sign.
--
--   folded x    x, or −(x + 1) where x is below zero
use Rattle.std.specs.Prelude.{ℕ, ℤ, pos, negsuc}

unfoldable pub folded : ℤ → ℕ
folded (pos n) = n
folded (negsuc n) = n
