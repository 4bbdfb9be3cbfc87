use Rattle.std.proofs.Common.{◌≡◌, ◌+◌, ◌*◌, ◌-◌, ◌&&◌, ◌∙◌, true, refl, sym, subst, arith}
use native.Mathlib.Nat as Nat
use borrow.Rule.Slice.PartMut.{put_mid, same_len_mid}
use Rattle.opening_checks.proofs.Rowwise.{RowsSoFar, rows_none, rows_more}
use Rattle.opening_checks.proofs.check_rows.Goals as goal

pub loop-r-init : goal.loop-r-init
loop-r-init c = let a = c.args in
    (refl, λ _. subst (λ n. RowsSoFar a.settings a.t a.e a.claims.now a.rounds.now 0 n true a.claims.now) (sym (Nat.zero-mul a.settings.degree)) (rows_none _ _ _ _ _))

pub loop-r-preserved : goal.loop-r-preserved
loop-r-preserved c =
    let a = c.args in
    let l = c.loop-r in
    let writes = c.next_claim in
    let at = l.r * a.settings.degree in
    let next : at + a.settings.degree ≡ (l.r + 1) * a.settings.degree = omega (arith, Nat.add-mul l.r 1 a.settings.degree) in (
      same_len_mid at (at + a.settings.degree - at) l.claims writes.new.claim writes.auto.claim ∙ l.invariant.0,
      (λ g.
          subst (λ n. RowsSoFar a.settings a.t a.e a.claims.now a.rounds.now (l.r + 1) n (l.met && c.polynomial_holds-holds.result) (put_mid at (at + a.settings.degree - at) l.claims writes.new.claim)) next
          (rows_more a.settings a.t a.e a.claims.now a.rounds.now g (l.invariant.1 g) (omega arith) l.invariant.0 _
          c.polynomial_holds-holds.ensures writes.new.claim
          writes.auto.claim writes.ensures)),
    )
