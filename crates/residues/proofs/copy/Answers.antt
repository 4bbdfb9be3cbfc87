use Rattle.std.proofs.Common.{◌∙◌, arith}
use Rattle.residues.proofs.Parts.{front-own}
use Rattle.residues.proofs.copy.Goals as goal

pub returns : goal.returns
returns c = λ h. let a = c.args in c.store.ensures (record { there = omega arith; room = omega arith }) ∙ front-own a.table.now a.to.now
