-- What the fold of a message asks of it.
--
--   half_most          128: how many elements a half has at most
--   Foldable d h e m   the message m has two halves of h elements, small enough to be added, and X^e is a power
use Rattle.std.specs.Prelude.{List, ℕ, ◌*◌, ◌<◌, ◌≤◌, ℤ, length}
use Rattle.protocol.specs.Element.{width}
use Rattle.half_sums.specs.Room.{Room}

abbrev pub half_most : ℕ
half_most = 128

pub record Foldable (d h e : ℕ) (m : List ℤ) : Type 0 where
  pub degree : 0 < d
  pub degree_most : d ≤ width
  pub elements : h ≤ half_most
  pub exponent : e < 2 * d
  pub long : 2 * (h * d) ≤ length m
  pub room : Room (2 * (h * d)) m
