use Rattle.std.proofs.Common.{◌∙◌, ◌+◌, ◌*◌, ◌-◌, ap, arith, ltb, take, drop}
use Rattle.protocol.specs.Basic.{all}
use Rattle.sizes.proofs.Limits.{allowed_degree}
use Rattle.verifier_refusals.proofs.Lent.{front_tested, lent_inside}
use Rattle.verifier_refusals.proofs.row_below.Goals as goal
use Rattle.verifier_refusals.proofs.row_below.Goals.{then-d-gt-WIDTH-via-then-d-gt-WIDTH, then-d-gt-WIDTH-via-else-d-gt-WIDTH+then-a-at}

pub returns-then-d-gt-WIDTH : goal.returns-then-d-gt-WIDTH
returns-then-d-gt-WIDTH c = λ h.
    let a = c.args in
    absurd (elim c.then-d-gt-WIDTH.branch [
      | then-d-gt-WIDTH-via-then-d-gt-WIDTH w ↦ omega (arith, allowed_degree a.settings h.0)
      | then-d-gt-WIDTH-via-else-d-gt-WIDTH+then-a-at w ↦ omega (arith, lent_inside a.settings h.0 a.step a.a.now h.1 a.i (omega arith))
    ])

pub returns : goal.returns
returns c = λ h.
    let a = c.args in
    let S = a.settings in
    let t = a.a.now in
    let at = a.i * a.step in
    let inside = lent_inside S h.0 a.step t h.1 a.i (omega arith) in
    c.all_below_wide.ensures
    ∙ ap (λ n. all (λ x. ltb x S.modulus) (take n (drop at t))) {x = at + S.degree - at} {y = S.degree} (omega arith)
    ∙ front_tested S.modulus at S.degree t inside
