use Rattle.std.proofs.Common.{◌≡◌, suc, ◌-◌, ◌*◌, ◌%◌, ◌^◌, ◌<◌, get_or, refl, ap, ◌∙◌, subst, add-one, arith}
use native.Mathlib.Nat as Nat
use Rattle.folded_keys.specs.Turns.{at_bit, Turned}
use Rattle.folded_keys.proofs.Summing.{pow-few, turned_none, on-circle, turned_more}
use Rattle.folded_keys.proofs.turns.Goals as goal

pub loop-s-init : goal.loop-s-init
loop-s-init c = let a = c.args in (omega arith, refl, λ e. turned_none (2 * a.settings.degree) a.settings.depth (omega arith) a.challenges.now a.x.now e)

pub second_half-requires : goal.second_half-requires
second_half-requires c = let l = c.loop-s in omega (arith, pow-few l.s (omega arith))

pub loop-s-preserved : goal.loop-s-preserved
loop-s-preserved c =
    let l = c.loop-s in
    let a = c.args in
    let h = c.second_half in
    let d = 2 * a.settings.degree in
    let L = a.settings.depth in
    let E = a.challenges.now in
    let few = pow-few l.s (omega arith) in
    let pc : 0 < d = omega arith in
    let e = get_or E (L - 1 - l.s) 0 % d in
    let is-e : e ≡ at_bit L E l.s % d = ap (λ n. get_or E n 0 % d) {x = L - 1 - l.s} {y = L - suc l.s} (omega arith) in (
      omega (arith, few),
      omega (arith, Nat.two-pow-succ l.s, ap (λ r. 2 ^ r) (add-one l.s)),
      λ z.
          let t = l.invariant.2 z in
          turned_more d L pc E l.s l.x t l.m e l.invariant.1 is-e (omega (arith, few)) h.new.x
          (h.ensures (on-circle d L pc E l.s l.x t l.m e l.invariant.1 is-e)),
    )

pub returns : goal.returns
returns c =
    let l = c.loop-s in
    let a = c.args in
    let L = a.settings.depth in
    let all : l.s ≡ L = omega arith in
    (l.invariant.1 ∙ ap (λ r. 2 ^ r) all, λ e. subst (λ r. Turned (2 * a.settings.degree) L a.challenges.now r l.x) all (l.invariant.2 e))
