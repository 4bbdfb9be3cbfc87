use Rattle.std.proofs.Common.{◌≡◌, ℕ, suc, ◌+◌, ◌-◌, ◌%◌, ◌<◌, List, get_or, take, drop, sym, refl, ap, ◌∙◌, add-one, arith, length-drop, length-take-le, get_or-drop, get_or-take}
use Rattle.transform.specs.Strands.{strands}
use Rattle.transform.specs.Steps.{total}
use Rattle.transform.proofs.added.Goals as goal

-- number k of the part that is added up
part_at : (s : List ℕ) (at m k : ℕ) → k < m → get_or (take m (drop at s)) k 0 ≡ get_or s (at + k) 0
part_at s at m k h = get_or-take m (drop at s) k 0 h ∙ get_or-drop at s k 0

pub loop-x-init : goal.loop-x-init
unfolding total
loop-x-init c = (omega arith, refl)

pub loop-x-preserved : goal.loop-x-preserved
unfolding total
loop-x-preserved c =
    let a = c.args in
    let l = c.loop-x in
    let k = l.x-index in
    let inside : k < a.at + strands - a.at = omega (arith, length-take-le (a.at + strands - a.at) (drop a.at a.s.now) (omega (arith, length-drop a.at a.s.now))) in
    let read = c.from-sum.ensures ∙ part_at a.s.now a.at (a.at + strands - a.at) k inside in (
      omega (arith, c.from-sum.ensures, read, c.type_inv.s (a.at + k)),
      (λ i. l.invariant.1 i + read i) ∙ ap (λ n. total a.s.now a.at n) {x = suc k} (sym (add-one k)),
    )

pub returns : goal.returns
returns c =
    let a = c.args in
    let l = c.loop-x in
    ap (λ n. n % 12289) (l.invariant.1 ∙ ap (λ n. total a.s.now a.at n) (omega (arith, length-take-le (a.at + strands - a.at) (drop a.at a.s.now) (omega (arith, length-drop a.at a.s.now)))))
