use Rattle.std.proofs.Common.{◌≡◌, ℕ, ◌+◌, ◌-◌, ◌<◌, length, take, drop, sym, ap, ◌∙◌, subst, arith}
use native.Mathlib.Nat as Nat
use Rattle.half_sums.specs.Halves.{keys_of}
use Rattle.strands.specs.Strands.{Woven, KeyGiven}
use Rattle.strands.proofs.Weaving.{row_given, row_same}
use Rattle.strands.proofs.weave_keys.Goals as goal

pub loop-r-init : goal.loop-r-init
loop-r-init c = (omega arith, λ G z _. (λ _. sym (Nat.zero-mul _), λ s j l _. absurd (omega arith)))

pub loop-r-preserved : goal.loop-r-preserved
loop-r-preserved c =
    let a = c.args in
    let l = c.loop-r in
    let move = c.weave_key in
    let next = c.further-from in (
      next.ensures.0,
      λ G z room.
          let h : l.r < a.strands = omega arith in
          let w = l.invariant.1 G z room in
          let from = w.0 h in
          let given = subst (λ v. KeyGiven a.sums a.q a.d a.n (take (length a.g.now - v) (drop v a.g.now))) (sym from)
          (row_given a.sums a.q a.d a.n a.strands a.stride a.g.now G z l.r h) in
          let same : (j : ℕ) → j < a.d → keys_of a.sums a.q a.d a.n (take (length a.g.now - l.from) (drop l.from a.g.now)) a.i j ≡ keys_of a.sums a.q a.d
          a.n (G l.r) a.i j =
          λ j m. ap (λ v. keys_of a.sums a.q a.d a.n (take (length a.g.now - v) (drop v a.g.now)) a.i j) from
          ∙ row_same a.sums a.q a.d a.n a.strands a.stride a.g.now G z l.r h a.i c.requires.3 j m in (
            λ m. next.ensures.1 (omega (arith, from, z.long (l.r + 1) m, Nat.add-mul l.r 1 a.stride)) ∙ omega (arith, from, Nat.add-mul l.r 1 a.stride),
            move.ensures (λ t. keys_of a.sums a.q a.d a.n (G t) a.i) (given, omega (arith, room), same, w.1),
          ),
    )

pub returns : goal.returns
returns c = λ G z.
    let a = c.args in
    let l = c.loop-r in
    subst (λ n. Woven a.strands n a.d (λ t. keys_of a.sums a.q a.d a.n (G t) a.i) l.k) (omega arith) (l.invariant.1 G z.0 z.1).1
