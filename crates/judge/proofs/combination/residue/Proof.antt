-- The residue without the sign, or what is left of q − 1.
use mathlib.Core.Path.{◌≡◌, sym, ap, ◌∙◌}
use Prim.Native.Nat.{◌-◌, ◌%◌}
use native.Mathlib.Nat.{mod-lt}
use native.Mathlib.Omega.{arith}
use lib.IntN.{pos}
use lib.Signed.{lt_z}
use mir.Facts.{to_z-of_z}
use Rattle.judge.specs.Signs.{folded}
use Rattle.judge.proofs.Signs.{residue-below, residue-above}
use borrow.Author.Rules.{rules}
use Rattle.judge.proofs.combination.residue.Statement.{statement}
use Rattle.judge.proofs.combination.residue.Tie as tie

-- the residue of the number passed, without its sign
rest-is : (c : tie.After-remainder-m) → let a = c.args in c.remainder-m.result ≡ folded a.x % a.q
rest-is c = let s = c in c.remainder-m.ensures ∙ ap (λ m. m % s.args.q) (c.folded.ensures ∙ ap folded (to_z-of_z s.ranges.x))

overflow_sub-result-then-x-lt0 : tie.Need-overflow_sub-result-then-x-lt0
overflow_sub-result-then-x-lt0 c = omega (arith, c.remainder-m.ensures, mod-lt c.folded.result c.requires)

returns-then-x-lt0 : tie.Need-returns-then-x-lt0
returns-then-x-lt0 c =
    let r = c in
    let s = r in
    ap (λ m. s.args.q - 1 - m) (rest-is r.before) ∙ residue-below s.args.q s.args.x (sym (ap (λ z. lt_z z (pos 0)) (to_z-of_z s.ranges.x)) ∙ c.if-x-lt0.true)

returns : tie.Need-returns
returns c =
    let r = c in
    let s = r in
    rest-is r.before ∙ residue-above s.args.q s.args.x (sym (ap (λ z. lt_z z (pos 0)) (to_z-of_z s.ranges.x)) ∙ c.if-x-lt0.false)

pub residue_spec : {M : Type 1} → statement M
residue_spec = tie.close (tie.spec (λ c κs. search rules) (λ c κs. search rules) (λ c. search rules) overflow_sub-result-then-x-lt0 returns-then-x-lt0 returns)
