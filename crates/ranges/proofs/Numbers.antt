-- A refusal has a number.
--
--   number_least   it is not below 1
--   number_some    it is not 0
use Rattle.std.proofs.Common.{◌≡◌, ◌≤◌, arith}
use Rattle.protocol.specs.declared.Refusal.{Refusal}
use Rattle.protocol.specs.declared.Refusal.TheVariants as Code
use Rattle.protocol.specs.Refusal.{number}

pub number_least : (r : Refusal) → 1 ≤ number r
number_least Code.Long = omega arith
number_least Code.Text = omega arith
number_least Code.Degree = omega arith
number_least Code.Depth = omega arith
number_least Code.Modulus = omega arith
number_least Code.Bound = omega arith
number_least Code.Size = omega arith
number_least Code.Residue = omega arith
number_least Code.Tall = omega arith
number_least Code.Challenge = omega arith
number_least Code.Turn = omega arith
number_least Code.Twin = omega arith
number_least Code.Branch = omega arith
number_least Code.Growth = omega arith
number_least Code.Slack = omega arith
number_least Code.Rows = omega arith

pub number_some : (r : Refusal) → number r ≡ 0 → ⊥
number_some r e = absurd (omega (arith, number_least r, e))
