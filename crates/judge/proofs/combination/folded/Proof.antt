use mathlib.Core.Path.{sym, ap, ◌∙◌}
use lib.Dec.{lit<}
use lib.IntN.{pos}
use lib.Signed.{lt_z}
use mir.Facts.{to_z-of_z}
use mir.Syntax.{w64}
use Rattle.ranges.proofs.Magnitude.{Negative, Whole, negative, whole}
use Rattle.judge.proofs.Signs.{folded-below, folded-above}
use Rattle.judge.proofs.combination.folded.Statement.{statement}
use Rattle.judge.proofs.combination.folded.Tie as tie

below : (c : tie.Then-x-lt0) → Negative w64 (lit< tt) c.args.x
below c = negative w64 (lit< tt) c.args.x c.ranges.x c.if-x-lt0.true

above : (c : tie.Else-x-lt0) → Whole w64 (lit< tt) c.args.x
above c = whole w64 (lit< tt) c.args.x c.ranges.x c.if-x-lt0.false

returns-then-x-lt0 : tie.Need-returns-then-x-lt0
returns-then-x-lt0 c = folded-below _ c.args.x (sym (ap (λ z. lt_z z (pos 0)) (to_z-of_z c.ranges.x)) ∙ c.if-x-lt0.true) (below c).magnitude_is

returns-else-x-lt0 : tie.Need-returns-else-x-lt0
returns-else-x-lt0 c = folded-above _ c.args.x (sym (ap (λ z. lt_z z (pos 0)) (to_z-of_z c.ranges.x)) ∙ c.if-x-lt0.false) (above c).magnitude_is

pub folded_spec : {M : Type 1} → statement M
folded_spec = tie.close (tie.spec (λ c. (below c).raised_fits) (λ c. (below c).turned_fits) (λ c. (below c).cast_fits) (λ c. (above c).cast_fits) returns-then-x-lt0 returns-else-x-lt0)
