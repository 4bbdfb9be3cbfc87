-- Row i begins i times the places of an element behind the first.
use Rattle.std.proofs.Common.{◌-◌, ◌*◌, ltb, length, get_or, drop, ap, ◌∙◌, arith, length-drop, take_all, rules}
use Rattle.protocol.specs.Basic.{every}
use Rattle.protocol.specs.Element.{value_row}
use Rattle.protocol.specs.Layout.{width}
use Rattle.ranges.proofs.tests.row_below.Statement.{statement}
use Rattle.ranges.proofs.tests.row_below.Tie as tie

returns-then-a-at : tie.Need-returns-then-a-at
returns-then-a-at c = λ h. absurd (omega (arith, h.1, c.if-a-at.true))

returns : tie.Need-returns
unfolding value_row
returns c = λ h.
    let a = c.args in
    let t = a.a.now in
    let at = a.i * width in
    let whole = take_all (length t - at) (drop at t) (omega (arith, length-drop at t)) in
    c.front_below.ensures (omega (arith, ap length whole, length-drop at t, h.0, h.1)) ∙ ap (λ l. every a.d (λ k. ltb (get_or l k 0) a.limit)) whole

pub row_below_spec : {M : Type 1} → statement M
row_below_spec = tie.close (tie.spec (λ c. search rules) returns-then-a-at (λ c. search rules) (λ c. search rules) (λ c. search rules) (λ c. search rules) (λ c κs. search rules) returns)
