-- The three rows are written side by side.
use Rattle.std.proofs.Common.{◌≡◌, ◌%◌, ◌<◌, get_or, sym, refl, ◌∙◌, subst, arith, length-set}
use native.Mathlib.Nat as Nat
use Rattle.protocol.specs.Element.{modulo, residue}
use Rattle.rows.specs.Rows.{turned}
use Rattle.rows.proofs.Extension.{place_first, place_second, place-third}
use Rattle.rows.proofs.ThreeRows.{ThreeRows, three_none, three_turn, three_done}
use Rattle.rows.proofs.write_rows.Goals as goal

pub loop-k-init : goal.loop-k-init
loop-k-init c = (λ _. three_none _ _ _, refl)

pub loop-k-preserved : goal.loop-k-preserved
unfolding modulo residue
loop-k-preserved c =
    let a = c.args in
    let l = c.loop-k in
    let small : l.k < a.d = omega arith in (
      (λ below.
          let own = below.each l.k small in
          let some : 0 < a.q = omega (arith, own) in
          let same : get_or a.a.now l.k 0 ≡ get_or a.a.now l.k 0 % a.q = sym (Nat.mod-eq_of_lt own) in
          three_turn _ a.d l.k a.y.now l.y (l.invariant.0 below) small (omega arith) _ _ _
          (place_first a.q a.d some (omega arith) (residue a.a.now) l.k _ small same)
          (c.negated.ensures own ∙ place_second a.q a.d some (omega arith) (residue a.a.now) l.k _ small same)
          (place-third a.q a.d some (omega arith) (residue a.a.now) l.k _ small same)),
      simp length-set (omega arith),
    )

pub returns : goal.returns
returns c = λ below.
    let a = c.args in
    let l = c.loop-k in
    three_done (turned a.q a.d (residue a.a.now)) a.d a.y.now l.y
    (subst (λ n. ThreeRows (turned a.q a.d (residue a.a.now)) a.d n a.y.now l.y) (omega arith) (l.invariant.0 below)) (omega arith)
