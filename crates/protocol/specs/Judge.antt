-- PROTOCOL 6: the judge of relaxed openings.
--
--   slack_allowed S c        is c in its range, with no factor in common with q (refusal 15)
--   slack S                  the extractor's slack, 4^L
--   scaled_commitment S C c  c times the commitment, modulo q
--   combination S key w      the sum of w_i·G_i, modulo q
--   opens S key C c w        are they equal, as a test; `Opens` is the same as a statement
--   judged S key C c w       what the judge says of all rows, C being a commitment by value and key a key of all rows
use Rattle.std.specs.Prelude.{Bool, ◌&&◌, List, ◌≡◌, ℕ, ◌<◌, ◌^◌, eqb, leb, ℤ, pos}
use Rattle.protocol.specs.declared.Settings.{Settings}
use Rattle.protocol.specs.Basic.{every}
use Rattle.protocol.specs.CommonDivisor.{greatest_common_divisor}
use Rattle.protocol.specs.Element.{modulo, residue, times, signed_at, residue_at, value_row}
use Rattle.protocol.specs.Settings.{size, all_within}
use Rattle.protocol.specs.Opening.{inner}
use Rattle.protocol.specs.Rows.{key_row}
use Rattle.protocol.specs.Tree.{growth}

-- PROTOCOL 6: a factor in common with q would open commitments that have nothing behind them
unfoldable pub slack_allowed : Settings → ℕ → Bool
slack_allowed S c = leb 1 c && leb c 65_536 && eqb (greatest_common_divisor c S.modulus) 1

-- PROTOCOL 5.7: 4 for each round
unfoldable pub slack : Settings → ℕ
slack S = 4 ^ S.depth

unfoldable pub scaled_commitment : Settings → List ℕ → ℕ → ℕ → ℕ
scaled_commitment S C c k = modulo S.modulus (times (pos c) (residue C) k)

unfoldable pub combination : Settings → List ℕ → List ℤ → ℕ → ℕ
combination S key w k = modulo S.modulus (inner S.degree (size S) (signed_at S.degree w) (residue_at S.degree key) k)

-- PROTOCOL 6: without the growth bound, and with the key before any fold
unfoldable pub opens : Settings → List ℕ → List ℕ → ℕ → List ℤ → Bool
opens S key C c w = every S.degree (λ k. eqb (scaled_commitment S C c k) (combination S key w k))

abbrev pub Opens : Settings → List ℕ → List ℕ → ℕ → List ℤ → Type 0
Opens S key C c w = (k : ℕ) → k < S.degree → scaled_commitment S C c k ≡ combination S key w k

-- PROTOCOL 6: the equation in every row, and the growth bound
unfoldable pub judged : Settings → List ℕ → List ℕ → ℕ → List ℤ → Bool
judged S key C c w = every S.rows (λ r. opens S (key_row S key r) (value_row C r) c w) && all_within (growth S) w
