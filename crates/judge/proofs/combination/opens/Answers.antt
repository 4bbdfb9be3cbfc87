use Rattle.std.proofs.Common.{◌<◌, ◌*◌, ◌%◌, subst, get_or, sym, ap, ◌∙◌, arith, length-take-le, get_or-take}
use lib.Dec.{eqb}
use borrow.Author.Tests.{not-true, not-false}
use Rattle.protocol.proofs.Inputs.{settings-valid}
use Rattle.ranges.proofs.Scan.{every-none, every_goes_on, every_fails, every_ends}
use Rattle.sizes.proofs.Limits.{degree_most}
use Rattle.judge.proofs.Sums.{modulus_given}
use Rattle.judge.proofs.Same.{same, same_is}
use Rattle.judge.proofs.combination.opens.Goals as goal

pub prepared-factor-requires : goal.prepared-factor-requires
prepared-factor-requires c = (modulus_given c.args.settings c.args.key.now c.args.w.now c.requires.0, omega (arith, c.ranges.c.fits))

pub loop-k-init : goal.loop-k-init
loop-k-init c = every-none _

pub bounds-sums-k : goal.bounds-sums-k
bounds-sums-k c =
    let a = c.args in
    omega (arith, degree_most a.settings (settings-valid a.settings c.requires.0.allowed), length-take-le a.settings.degree a.commitment.now c.requires.1, c.loop-k-test.true)

pub scaled_is-requires : goal.scaled_is-requires
scaled_is-requires c =
    let a = c.args in
    let k = c.loop-k.k in
    let inside : k < a.settings.degree = omega (arith, length-take-le a.settings.degree a.commitment.now c.requires.1, c.loop-k-test.true) in
    (c.prepared-factor.ensures, subst (λ x. x < a.settings.modulus) (sym (get_or-take a.settings.degree a.commitment.now k 0 inside)) (c.requires.2 k inside))

pub returns-then-not-scaled_is : goal.returns-then-not-scaled_is
returns-then-not-scaled_is c =
    let a = c.args in
    let k = c.loop-k.k in
    let sums = c.combination-sums in
    let inside : k < a.settings.degree = omega (arith, length-take-le a.settings.degree a.commitment.now c.requires.1, c.loop-k-test.true) in
    every_fails (same a.settings.modulus a.c a.commitment.now sums.result) a.settings.degree k inside
    (ap (λ x. eqb (a.c * x % a.settings.modulus) (get_or sums.result k 0)) (sym (get_or-take a.settings.degree a.commitment.now k 0 inside)) ∙ sym c.scaled_is.ensures ∙ not-true _ c.if-not-scaled_is.true-raw)
    ∙ same_is a.settings a.key.now a.commitment.now a.c a.w.now _ sums.ensures

pub loop-k-preserved : goal.loop-k-preserved
loop-k-preserved c =
    let a = c.args in
    let l = c.loop-k in
    let sums = c.combination-sums in
    let inside : l.k < a.settings.degree = omega (arith, length-take-le a.settings.degree a.commitment.now c.requires.1, c.loop-k-test.true) in
    every_goes_on (same a.settings.modulus a.c a.commitment.now sums.result) l.k l.invariant
    (ap (λ x. eqb (a.c * x % a.settings.modulus) (get_or sums.result l.k 0)) (sym (get_or-take a.settings.degree a.commitment.now l.k 0 inside)) ∙ sym c.scaled_is.ensures ∙ not-false _ c.if-not-scaled_is.false-raw)

pub returns : goal.returns
returns c =
    let a = c.args in
    let l = c.loop-k in
    let sums = c.combination-sums in
    every_ends (same a.settings.modulus a.c a.commitment.now sums.result) a.settings.degree l.k l.invariant (omega (arith, length-take-le a.settings.degree a.commitment.now c.requires.1, c.loop-k-test.false, l.auto.k-end))
    ∙ same_is a.settings a.key.now a.commitment.now a.c a.w.now _ sums.ensures
