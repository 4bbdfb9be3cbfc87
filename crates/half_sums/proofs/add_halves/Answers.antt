use Rattle.half_sums.proofs.Elements.{message_at, key_at}
use Rattle.half_sums.proofs.add_halves.Goals as goal

pub returns : goal.returns
returns c = λ h i z. record {
  message = c.add_message.ensures h i (message_at _ _ _ _ _ _ _ _ z.0, z.1);
  key = c.add_key.ensures h i (key_at _ _ _ _ _ _ _ _ z.0, z.2);
}
