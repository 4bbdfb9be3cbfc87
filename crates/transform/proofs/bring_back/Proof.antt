use Rattle.std.proofs.Common.{◌∙◌, rules}
use Rattle.transform.proofs.Sums.{gathered_long, gathered-below, came_back}
use Rattle.transform.proofs.bring_back.Statement.{statement}
use Rattle.transform.proofs.bring_back.Tie as tie

returns : tie.Need-returns
returns c = λ F count p.
    let a = c.args in
    let out = c.gather.ensures in
    came_back a.level F count a.sums.now a.out.now _ _ p.2 p.1 out
    (c.backward.ensures (p.0, gathered_long a.sums.now a.out.now _ out ∙ p.1, gathered-below a.sums.now a.out.now _ out))

pub bring_back_spec : {M : Type 1} → statement M
bring_back_spec = tie.close (tie.spec (λ c κs. search rules) (λ c κs. search rules) (λ c. search rules) returns)
