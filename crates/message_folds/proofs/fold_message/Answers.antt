use Rattle.message_folds.proofs.fold_message.Goals as goal

pub returns : goal.returns
returns c = λ g. c.fold_halves.ensures g.room
