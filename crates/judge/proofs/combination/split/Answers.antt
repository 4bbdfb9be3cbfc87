use Rattle.std.proofs.Common.{◌≡◌, ◌/◌, ◌%◌, ◌^◌, get_or, pos, ap, ◌∙◌, arith, rules, w32, w64}
use Rattle.protocol.specs.Element.{modulo}
use Rattle.ranges.proofs.Magnitude.{through-bits}
use Rattle.residues.proofs.Fill.{filled_none, filled-turn, filled-end}
use Rattle.judge.specs.Digits.{digit}
use Rattle.judge.proofs.Split.{first_digit, second_digit}
use Rattle.judge.proofs.combination.split.Goals as goal

pub loop-p-init : goal.loop-p-init
loop-p-init c = (filled_none _ _, filled_none _ _)

pub loop-p-preserved : goal.loop-p-preserved
unfolding digit
loop-p-preserved c =
    let l = c.loop-p in
    let a = c.args in
    let m-is : c.residue.result ≡ modulo a.q (get_or a.w.now l.p (pos 0)) = c.residue.ensures ∙ ap (modulo a.q) (through-bits w64 _ (search rules)) in (
      filled-turn _ l.p _ l.invariant.0 (through-bits w32 c.digit_of.result c.digit_of.type_inv ∙ c.digit_of.ensures
          ∙ ap (λ m. pos (m / 2 ^ a.shift / 1 % 65536)) m-is ∙ ap pos (first_digit a.q (2 ^ a.shift) _)) (omega arith),
      filled-turn _ l.p _ l.invariant.1 (through-bits w32 c.digit_of-in-loop-p.result c.digit_of-in-loop-p.type_inv ∙ c.digit_of-in-loop-p.ensures
          ∙ ap (λ m. pos (m / 2 ^ a.shift / 65536 % 65536)) m-is ∙ ap pos (second_digit a.q (2 ^ a.shift) _)) (omega arith),
    )

pub returns : goal.returns
returns c = let l = c.loop-p in (filled-end _ _ l.invariant.0 (omega arith), filled-end _ _ l.invariant.1 (omega arith))
