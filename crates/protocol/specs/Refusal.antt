-- PROTOCOL 7.1: the table of refusals, and what a call's answer is by its numbers.
--
--   number r      the number of a refusal
--   refusal_of x  the number of the refusal of an answer; 0 where it has none
use Rattle.std.specs.Prelude.{ℕ, Result, Ok, Err}
use Rattle.protocol.specs.declared.Refusal.{Refusal}
use Rattle.protocol.specs.declared.Refusal.TheVariants.{Long, Text, Degree, Depth, Modulus, Bound, Size, Residue, Tall, Challenge, Turn, Twin, Branch, Growth, Slack, Rows}

abbrev pub number : Refusal → ℕ
number Long = 1
number Text = 2
number Degree = 3
number Depth = 4
number Modulus = 5
number Bound = 6
number Size = 7
number Residue = 8
number Tall = 9
number Challenge = 10
number Turn = 11
number Twin = 12
number Branch = 13
number Growth = 14
number Slack = 15
number Rows = 16

abbrev pub refusal_of : {A : Type 0} → Result A Refusal → ℕ
refusal_of (Ok x) = 0
refusal_of (Err r) = number r
