use mathlib.Core.Path.{ap, ◌∙◌}
use Prim.Native.Nat.{◌*◌}
use native.Mathlib.Nat.{mod-lt}
use native.Mathlib.Omega.{arith}
use Rattle.folds.specs.Folds.{fold_down}
use Rattle.folds.proofs.Folds.{halves, fold_done, fold_once}
use borrow.Author.Rules.{rules}
use Rattle.folds.proofs.fold_elements.Statement.{statement}
use Rattle.folds.proofs.fold_elements.Tie as tie

fold_each-requires : tie.Need-fold_each-requires
fold_each-requires c κs =
    let once = c.on_circle-once in
    (c.requires.0, c.requires.1, omega (arith, once.ensures.0 (c.requires.0, c.requires.1), mod-lt c.args.e {m = 2 * c.args.d} (omega arith)), c.requires.2, search rules, search rules)

returns : tie.Need-returns
returns c = λ f.
    let s = c in
    let a = s.args in
    let once = c.on_circle-once in
    let moved = c.move_down.ensures in
    c.fold_each.ensures (halves a.q a.d a.h once.result a.from a.to a.t.now _ f moved)
    ∙ fold_done a.q a.d a.h once.result a.from a.to a.t.now _ f moved
    ∙ ap (λ n. fold_down a.q a.d a.h n a.from a.to a.t.now) (once.ensures.0 (s.requires.0, s.requires.1))
    ∙ fold_once a.q a.d a.h a.e a.from a.to a.t.now

pub fold_elements_spec : {M : Type 1} → statement M
fold_elements_spec =
    tie.close
    (tie.spec (λ c. search rules) (λ c κs. search rules) (λ c κs. search rules) (λ c. search rules) fold_each-requires (λ c. search rules) returns)
