use Rattle.std.proofs.Common.{ℕ, ◌<◌, get_or, take, pos, ◌+ℤ◌, ap, ◌∙◌, arith, length-take-le, get_or-take}
use native.Mathlib.Nat as Nat
use Rattle.protocol.specs.Element.{product, signed}
use Rattle.residues.proofs.Fill.{filled_none, filled-turn, filled-behind}
use Rattle.residues.proofs.Adding.{front_filled}
use Rattle.columns.specs.Columns.{narrow, add_columns}
use Rattle.columns.proofs.Words.{word}
use Rattle.columns.proofs.add_columns.Goals as goal

pub loop-k-init : goal.loop-k-init
loop-k-init c = filled_none _ _

pub loop-k-preserved : goal.loop-k-preserved
loop-k-preserved c =
    let l = c.loop-k in
    let a = c.args in
    let cell : ℕ → ℕ = λ i. word (pos (get_or a.sums.now i 0) +ℤ product a.d (signed a.f.now) (narrow a.g.now) i) in
    let inside : l.k < a.d = omega (arith, length-take-le a.d a.sums.now c.requires.sums) in
    filled-turn cell l.k (take a.d a.sums.now) l.invariant
    (c.column.ensures ∙ ap (λ n. word (pos n +ℤ product a.d (signed a.f.now) (narrow a.g.now) l.k))
    (ap (λ s. get_or s l.k 0) l.invariant ∙ filled-behind cell l.k (take a.d a.sums.now) 0 l.k (Nat.le_refl l.k) ∙ get_or-take a.d a.sums.now l.k 0 inside))
    (omega arith)

pub returns : goal.returns
unfolding add_columns
returns c = let a = c.args in front_filled _ a.d a.sums.now c.requires.sums c.loop-k.invariant (omega arith) (omega arith)
