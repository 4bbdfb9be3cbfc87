use Rattle.std.proofs.Common.{◌+◌, ◌*◌, ◌/◌, ◌%◌, ap, ◌∙◌, subst, arith, pow_pos}
use Rattle.modular.proofs.Shares.{Digits, digits_first, digits_small, digit_small, digits_more, digits_done, power, power_more, power_most}
use Rattle.modular.proofs.factors.share.Goals as goal

pub loop-i-init : goal.loop-i-init
loop-i-init c = digits_first c.args.q c.args.y (omega arith) 2

pub overflow_mul-digits-in-loop-i : goal.overflow_mul-digits-in-loop-i
overflow_mul-digits-in-loop-i c =
    let a = c.args in
    let l = c.loop-i in
    omega (arith, digits_small a.q a.y (omega arith) (power l.i) l.digits l.rest l.invariant (pow_pos (3 * l.i + 1)), power_most l.i (omega arith))

pub overflow_add-digits : goal.overflow_add-digits
overflow_add-digits c =
    let a = c.args in
    let l = c.loop-i in
    omega (
      arith,
      digits_small a.q a.y (omega arith) (power l.i) l.digits l.rest l.invariant (pow_pos (3 * l.i + 1)),
      power_most l.i (omega arith),
      digit_small a.q a.y (omega arith) (power l.i) l.digits l.rest l.invariant,
    )

pub loop-i-preserved : goal.loop-i-preserved
loop-i-preserved c =
    let a = c.args in
    let l = c.loop-i in
    subst (λ P. Digits a.q a.y P (8 * l.digits + 8 * l.rest / a.q) (8 * l.rest % a.q)) (power_more l.i)
    (digits_more a.q a.y (omega arith) (power l.i) l.digits l.rest l.invariant)

pub returns : goal.returns
returns c =
    let a = c.args in
    let l = c.loop-i in
    digits_done a.q a.y (omega arith) (power l.i) l.digits l.rest l.invariant ∙ ap (λ i. a.y * power i / a.q) {y = 21} (omega arith)
