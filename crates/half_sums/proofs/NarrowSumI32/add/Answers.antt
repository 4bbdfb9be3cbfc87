-- Both numbers are small once they are limited, so the sum and the difference have 32 bits.
use Rattle.std.proofs.Common.{◌≡◌, ℤ, ◌+ℤ◌, ◌-ℤ◌, nat_abs, ◌<◌, ◌^◌, SFits, w32, to_z, of_z, to_z-of_z, sym, ap, ◌∙◌, subst, arith}
use Rattle.std.proofs.lemmas.Int.{ints}
use Rattle.residues.specs.Residues.{signed}
use Rattle.half_sums.proofs.NarrowSumI32.add.Goals as goal

-- a number as it is read from its bits
abbrev read : ℤ → ℤ
read z = to_z w32 (of_z w32 z)

fits : (z : ℤ) → nat_abs z < 2 ^ 31 → SFits w32 z
fits z h = omega (arith, ints)

read_is : (z : ℤ) → nat_abs z < 2 ^ 30 → read z ≡ z
read_is z h = to_z-of_z {w = w32} (fits z (omega arith))

module _ (x y : ℤ) (hx : nat_abs x < 2 ^ 30) (hy : nat_abs y < 2 ^ 30) where
  fits-add : SFits w32 (x +ℤ y)
  fits-add = omega (arith, ints)

  fits-sub : SFits w32 (x -ℤ y)
  fits-sub = omega (arith, ints)

  sum_is : read (read x +ℤ read y) ≡ x +ℤ y
  sum_is = ap read (λ i. read_is x hx i +ℤ read_is y hy i) ∙ to_z-of_z {w = w32} fits-add

  difference_is : read (read x -ℤ read y) ≡ x -ℤ y
  difference_is = ap read (λ i. read_is x hx i -ℤ read_is y hy i) ∙ to_z-of_z {w = w32} fits-sub

pub returns-then-negative : goal.returns-then-negative
unfolding signed
returns-then-negative c = λ h.
    let a = c.args in
    let x = to_z-of_z c.ranges.x in
    let y = to_z-of_z c.ranges.y in
    let one = c.limited.ensures in
    let two = c.limited-then-negative.ensures in
    difference_is c.limited.result c.limited-then-negative.result one.0 two.0
    ∙ (λ i. (one.1 (subst (λ z. nat_abs z < 2 ^ 30) (sym x) h.left) ∙ x) i -ℤ (two.1 (subst (λ z. nat_abs z < 2 ^ 30) (sym y) h.right) ∙ y) i)
    ∙ ap (λ b. a.x +ℤ signed b a.y) (sym c.if-negative.true)

pub returns-else-negative : goal.returns-else-negative
unfolding signed
returns-else-negative c = λ h.
    let a = c.args in
    let x = to_z-of_z c.ranges.x in
    let y = to_z-of_z c.ranges.y in
    let one = c.limited-else-negative.ensures in
    let two = c.limited-else-negative-2.ensures in
    sum_is c.limited-else-negative.result c.limited-else-negative-2.result one.0 two.0
    ∙ (λ i. (one.1 (subst (λ z. nat_abs z < 2 ^ 30) (sym x) h.left) ∙ x) i +ℤ (two.1 (subst (λ z. nat_abs z < 2 ^ 30) (sym y) h.right) ∙ y) i)
    ∙ ap (λ b. a.x +ℤ signed b a.y) (sym c.if-negative.false)
