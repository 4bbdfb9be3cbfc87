use Rattle.std.proofs.Common.{◌+ℤ◌, ◌-ℤ◌, ℤ, nat_abs, ◌<◌, ◌^◌, sym, ap, ◌∙◌, arith}
use mir.Syntax.{w32}
use mir.Val.{SFits}
use Rattle.std.proofs.lemmas.Int.{ints, wrapping_add_is, wrapping_sub_is, int_wrap_fits}
use Rattle.residues.specs.Residues.{signed}
use Rattle.residues.proofs.sums.WholeSumI32.add.Goals as goal

fits-add : (x y : ℤ) → nat_abs x < 2 ^ 30 → nat_abs y < 2 ^ 30 → SFits w32 (x +ℤ y)
fits-add x y hx hy = omega (arith, ints)

fits-sub : (x y : ℤ) → nat_abs x < 2 ^ 30 → nat_abs y < 2 ^ 30 → SFits w32 (x -ℤ y)
fits-sub x y hx hy = omega (arith, ints)

pub returns-then-negative : goal.returns-then-negative
unfolding signed
returns-then-negative c = λ h. let a = c.args in
    wrapping_sub_is w32 a.x a.y c.ranges.x c.ranges.y ∙ int_wrap_fits w32 _ (fits-sub a.x a.y h.left h.right) ∙ ap (λ b. a.x +ℤ signed b a.y) (sym c.if-negative.true)

pub returns-else-negative : goal.returns-else-negative
unfolding signed
returns-else-negative c = λ h. let a = c.args in
    wrapping_add_is w32 a.x a.y c.ranges.x c.ranges.y ∙ int_wrap_fits w32 _ (fits-add a.x a.y h.left h.right) ∙ ap (λ b. a.x +ℤ signed b a.y) (sym c.if-negative.false)
