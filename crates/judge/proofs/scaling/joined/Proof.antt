use mathlib.Core.Path.{ap, ◌∙◌}
use Prim.Native.Nat.{◌+◌, ◌*◌, ◌%◌}
use native.Mathlib.Nat.{mod-lt, add-mod-mod}
use native.Mathlib.Omega.{arith}
use borrow.Author.Rules.{rules}
use Rattle.judge.proofs.scaling.joined.Statement.{statement}
use Rattle.judge.proofs.scaling.joined.Tie as tie

returns : tie.Need-returns
returns c =
    let t = c in
    let s = t in
    let a = s.args in
    c.plus.ensures (record { left = s.requires.1; right = omega (arith, t.times.ensures, mod-lt (a.y * a.b) s.requires.0.allowed.positive) })
    ∙ ap (λ x. (a.a + x) % a.q) t.times.ensures ∙ add-mod-mod a.a (a.y * a.b) a.q

pub joined_spec : {M : Type 1} → statement M
joined_spec = tie.close (tie.spec (λ c κs. search rules) (λ c κs. search rules) returns)
