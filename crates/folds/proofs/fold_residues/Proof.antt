use mathlib.Core.Path.{◌∙◌}
use Rattle.folds.proofs.Folds.{fold_in_place}
use borrow.Author.Rules.{rules}
use Rattle.folds.proofs.fold_residues.Statement.{statement}
use Rattle.folds.proofs.fold_residues.Tie as tie

returns : tie.Need-returns
returns c = λ f. c.fold_down.ensures f ∙ fold_in_place _ _ _ _ _

pub fold_residues_spec : {M : Type 1} → statement M
fold_residues_spec = tie.close (tie.spec (λ c κs. search rules) (λ c. search rules) returns)
