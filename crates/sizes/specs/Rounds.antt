-- How many rounds are done.
--
--   RoundsDone S t   the settings are allowed, and have t rounds
--   RoundLeft S t    the settings are allowed, and have a round more than t
use Rattle.std.specs.Prelude.{◌≡◌, ℕ, ◌<◌, ◌≤◌}
use Rattle.protocol.specs.declared.Settings.{Settings}
use Rattle.protocol.specs.Settings.{settings_refusal}

pub record RoundsDone (S : Settings) (t : ℕ) : Type 0 where
  pub allowed : settings_refusal S ≡ 0
  pub most : t ≤ S.depth

pub record RoundLeft (S : Settings) (t : ℕ) : Type 0 where
  pub allowed : settings_refusal S ≡ 0
  pub turn : t < S.depth
