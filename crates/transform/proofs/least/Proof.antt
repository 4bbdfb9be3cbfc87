use Rattle.std.proofs.Common.{arith, rules}
use Rattle.transform.proofs.least.Statement.{statement}
use Rattle.transform.proofs.least.Tie as tie
use Rattle.transform.proofs.least.Lts.{then-x-ge24578, else-x-ge24578, then-y-ge12289, else-y-ge12289}

returns : tie.Need-returns
returns c =
    let y = c.if-x-ge24578 in
    let r = c.if-y-ge12289 in
    elim y.branch [
      | then-x-ge24578 u ↦ elim r.branch [ then-y-ge12289 v ↦ (omega arith, λ h. omega arith) | else-y-ge12289 v ↦ (omega arith, λ h. omega arith) ]
      | else-x-ge24578 u ↦ elim r.branch [ then-y-ge12289 v ↦ (omega arith, λ h. omega arith) | else-y-ge12289 v ↦ (omega arith, λ h. omega arith) ]
    ]

pub least_spec : {M : Type 1} → statement M
least_spec = tie.close (tie.spec (λ c. search rules) (λ c. search rules) returns)
