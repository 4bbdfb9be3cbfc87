use Rattle.std.proofs.Common.{◌≡◌, ◌+◌, ◌*◌, ◌&&◌, true, sym, subst, arith}
use native.Mathlib.Nat as Nat
use Rattle.opening_checks.proofs.Rowwise.{EndsSoFar, ends_none, end_room, ends_more}
use Rattle.opening_checks.proofs.ends_hold.Goals as goal

pub loop-r-init : goal.loop-r-init
loop-r-init c = let a = c.args in
    (omega arith, λ _. subst (λ n. EndsSoFar a.settings a.claims.now a.last.now a.key.now 0 0 n true) (sym (Nat.zero-mul a.settings.degree)) (ends_none _ _ _ _))

pub returns-then-key-from : goal.returns-then-key-from
returns-then-key-from c = λ g.
    let a = c.args in
    absurd (omega (
      arith,
      (end_room a.settings a.claims.now a.last.now a.key.now g (c.loop-r.invariant.1 g) (omega arith)).0,
      c.cells-cells.ensures g.allowed,
    ))

pub returns-then-claims-at : goal.returns-then-claims-at
returns-then-claims-at c = λ g.
    let a = c.args in
    absurd (omega (arith, (end_room a.settings a.claims.now a.last.now a.key.now g (c.loop-r.invariant.1 g) (omega arith)).1))

pub loop-r-preserved : goal.loop-r-preserved
loop-r-preserved c =
    let a = c.args in
    let l = c.loop-r in
    let next : l.r * a.settings.degree + a.settings.degree ≡ (l.r + 1) * a.settings.degree = omega (arith, Nat.add-mul l.r 1 a.settings.degree) in (
      omega arith,
      (λ g.
          subst (λ n. EndsSoFar a.settings a.claims.now a.last.now a.key.now (l.r + 1) (l.from + c.cells-cells.result) n (l.met && c.end_holds-holds.result)) next
          (ends_more a.settings a.claims.now a.last.now a.key.now g (l.invariant.1 g) (omega arith)
          c.cells-cells.result
          (c.cells-cells.ensures g.allowed) _
          c.end_holds-holds.ensures)),
    )
