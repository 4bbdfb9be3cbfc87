-- The sum fits, as the caller shows.
use mathlib.Core.Path.{◌≡◌, sym, ap, ◌∙◌, subst}
use lib.IntN.{◌+ℤ◌}
use mir.Facts.{to_z-of_z}
use mir.Syntax.{w64}
use mir.Val.{SFits, to_z, of_z}
use Rattle.algebra.specs.Machine.{sfits-nat_abs}
use Rattle.extraction.proofs.elements.plus.Statement.{statement}
use Rattle.extraction.proofs.elements.plus.Tie as tie

is : (c : tie.Start) → to_z w64 (of_z w64 c.args.x) +ℤ to_z w64 (of_z w64 c.args.y) ≡ c.args.x +ℤ c.args.y
is c = λ i. to_z-of_z c.ranges.x i +ℤ to_z-of_z c.ranges.y i

fits : (c : tie.Start) → SFits w64 (c.args.x +ℤ c.args.y)
fits c = sfits-nat_abs (c.args.x +ℤ c.args.y) c.requires

overflow_add-result : tie.Need-overflow_add-result
overflow_add-result c = subst (SFits w64) (sym (is c)) (fits c)

returns : tie.Need-returns
returns c = ap (λ z. to_z w64 (of_z w64 z)) (is c) ∙ to_z-of_z (fits c)

pub plus_spec : {M : Type 1} → statement M
plus_spec = tie.close (tie.spec overflow_add-result returns)
