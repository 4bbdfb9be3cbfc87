use Rattle.std.proofs.Common.{arith}
use Rattle.half_sums.proofs.Elements.{message-inside, message-sum_is}
use Rattle.half_sums.proofs.add_message.Goals as goal

pub returns-then-f-at : goal.returns-then-f-at
returns-then-f-at c = λ h i z. absurd (omega (arith, (message-inside _ _ _ _ _ _ z.0).0))

pub returns-then-f-behind : goal.returns-then-f-behind
returns-then-f-behind c = λ h i z. absurd (omega (arith, (message-inside _ _ _ _ _ _ z.0).1))

pub returns : goal.returns
returns c = λ h i z. let a = c.args in message-sum_is a.d h i a.at a.behind a.f.now z.0 _ _ z.1 c.message_sums.ensures
