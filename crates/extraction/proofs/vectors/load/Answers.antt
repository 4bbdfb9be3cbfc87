use Rattle.std.proofs.Common.{◌≡◌, ◌∙◌, get_or, pos, ℤ, SFits, to_z, of_z, to_z-of_z, w32, w64, rules, arith}
use Rattle.protocol.specs.Element.{signed}
use Rattle.residues.proofs.Fill.{filled_none, filled-turn, filled-end}
use Rattle.ranges.proofs.Magnitude.{through-bits}
use Rattle.extraction.proofs.vectors.load.Goals as goal

through : (x : ℤ) → SFits w32 x → to_z w32 (of_z w32 x) ≡ x
through x h = to_z-of_z {w = w32} h

pub loop-k-init : goal.loop-k-init
loop-k-init c = filled_none _ _

pub loop-k-preserved : goal.loop-k-preserved
unfolding signed
loop-k-preserved c =
    let l = c.loop-k in
    let e : to_z w64 (of_z w64 c.from.result) ≡ get_or c.args.f.now l.k (pos 0) = through-bits w64 _ c.from.type_inv ∙ c.from.ensures ∙ through (get_or c.args.f.now l.k (pos 0)) (search rules) in
    filled-turn (signed c.args.f.now) l.k c.args.out.now l.invariant e (omega arith)

pub returns : goal.returns
returns c = filled-end _ _ c.loop-k.invariant (omega arith)
