use Prim.Native.Nat.{◌*◌, ◌≤◌}
use native.Mathlib.Omega.{arith}
use Rattle.protocol.specs.Element.{width}
use Rattle.folds.specs.Folds.{half_most}
use Rattle.folds.proofs.Folds.{few}
use borrow.Author.Rules.{rules}
use Rattle.folds.proofs.fold_down.Statement.{statement}
use Rattle.folds.proofs.fold_down.Tie as tie

half_small : (c : tie.Else-to-from) → let a = c.args in a.h * a.d ≤ half_most * width
half_small c = let a = c.args in few a.d a.h (omega arith) (omega arith)

returns-then-n-eq0 : tie.Need-returns-then-n-eq0
returns-then-n-eq0 c = λ f. absurd (omega arith)

returns-then-n-gt-WIDTH : tie.Need-returns-then-n-gt-WIDTH
returns-then-n-gt-WIDTH c = λ f. absurd (omega arith)

returns-then-h-gt-HALF_MOST : tie.Need-returns-then-h-gt-HALF_MOST
returns-then-h-gt-HALF_MOST c = λ f. absurd (omega arith)

returns-then-to-from : tie.Need-returns-then-to-from
returns-then-to-from c = λ f. absurd (omega arith)

overflow_mul-h : tie.Need-overflow_mul-h
overflow_mul-h c = omega (arith, half_small c)

overflow_mul-h-2 : tie.Need-overflow_mul-h-2
overflow_mul-h-2 c = omega (arith, half_small c)

overflow_add-from : tie.Need-overflow_add-from
overflow_add-from c = omega (arith, half_small c)

returns-then-t-from : tie.Need-returns-then-t-from
returns-then-t-from c = λ f. absurd (omega (arith, f.residues.long))

pub fold_down_spec : {M : Type 1} → statement M
fold_down_spec =
    tie.close
    (tie.spec returns-then-n-eq0 returns-then-n-gt-WIDTH returns-then-h-gt-HALF_MOST returns-then-to-from overflow_mul-h overflow_mul-h-2 overflow_add-from returns-then-t-from (λ c κs. search rules) (λ c. search rules)
    (λ c. search rules))
