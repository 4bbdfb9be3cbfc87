-- Inputs that nothing refuses, in plain numbers: the hypotheses of the theorems. No test and no code is mentioned here.
--
--   Valid S          settings that are allowed
--   Below m n t      a table of exactly n numbers, each below m: a key (m = q), challenges (m = 2d)
--   Within b n t     a table of exactly n whole numbers, each from −b to b: a message (b = B)
use Rattle.std.specs.Prelude.{◌≡◌, List, ℕ, ◌%◌, ◌^◌, ◌<◌, ◌≤◌, length, get_or, ℤ, pos, nat_abs}
use Rattle.protocol.specs.declared.Settings.{Settings}
use Rattle.protocol.specs.Layout.{rows_most}
use Rattle.protocol.specs.Settings.{transform_modulus, modulus_most}

-- PROTOCOL 1.1; the degree is 2^log, and the largest one has one modulus
pub record Valid (S : Settings) : Type 0 where
  pub log : ℕ
  pub degree_is : S.degree ≡ 2 ^ log
  pub log_least : 1 ≤ log
  pub log_most : log ≤ 7
  pub widest : log ≡ 7 → S.modulus ≡ transform_modulus
  pub depth_most : S.depth ≤ 8
  pub modulus_odd : S.modulus % 2 ≡ 1
  pub modulus_least : 3 ≤ S.modulus
  pub modulus_most_holds : S.modulus ≤ modulus_most
  pub bound_least : 1 ≤ S.bound
  pub bound_most : S.bound ≤ 127
  pub rows_least : 1 ≤ S.rows
  pub rows_most_holds : S.rows ≤ rows_most

pub record Below (m n : ℕ) (t : List ℕ) : Type 0 where
  pub long : length t ≡ n
  pub each : (i : ℕ) → i < n → get_or t i 0 < m

pub record Within (b n : ℕ) (t : List ℤ) : Type 0 where
  pub long : length t ≡ n
  pub each : (i : ℕ) → i < n → nat_abs (get_or t i (pos 0)) ≤ b
