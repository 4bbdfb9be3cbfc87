use Rattle.std.proofs.Common.{◌+◌, ◌-◌, ◌*◌, ◌/◌, ◌%◌, ◌^◌, ap, ◌∙◌, arith}
use Rattle.multiples.proofs.Ends.{multiple-past, sums-raised, multiple-test}
use Rattle.multiples.proofs.sum_is.Goals as goal

pub returns-then-a-joint : goal.returns-then-a-joint
returns-then-a-joint c = λ q z h. let a = c.args in multiple-past q h.0.allowed.positive z a.c a.a (omega (arith, h.0.modulus))

pub returns : goal.returns
returns c = λ q z h.
    let a = c.args in
    let R = h.0 in
    let q-is = R.modulus in
    multiple-test q R.allowed.positive z a.c a.a (omega (arith, q-is)) _
    (c.join.ensures q _ (
      R,
      sums-raised q R.allowed.positive z a.c a.a a.s a.t _ _ R.allowed.most h.2 h.1
          ((λ i. (a.s + c.from.ensures i * c.lower_half.ensures i) % 2 ^ 64) ∙ ap (λ n. (a.s + a.c * ((n - a.a) % 2 ^ 32)) % 2 ^ 64) q-is)
          ((λ i. (a.t + c.from-2.ensures i * c.upper_half.ensures i) % 2 ^ 64) ∙ ap (λ n. (a.t + a.c * ((n - a.a) / 2 ^ 32)) % 2 ^ 64) q-is),
    ))
