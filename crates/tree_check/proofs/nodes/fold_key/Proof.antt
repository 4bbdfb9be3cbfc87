use mathlib.Core.Path.{◌≡◌, refl, ◌∙◌}
use Prim.Native.Nat.{◌*◌, ◌-◌}
use native.Mathlib.Omega.{arith}
use Rattle.protocol.specs.Opening.{half_left}
use Rattle.folds.specs.Folds.{fold_down}
use Rattle.tree_check.proofs.Workspace as Workspace
use borrow.Author.Rules.{rules}
use Rattle.tree_check.proofs.nodes.fold_key.Statement.{statement}
use Rattle.tree_check.proofs.nodes.fold_key.Tie as tie

half : (c : tie.After-half_left-n) → let a = c.args in c.half_left-n.result ≡ half_left a.settings (a.settings.depth - a.h)
half c = c.half_left-n.ensures (record { allowed = c.requires.allowed; turn = omega (arith, c.requires.up, c.requires.height) })

overflow_mul-to : tie.Need-overflow_mul-to
overflow_mul-to c = omega (arith, Workspace.cells-few c.args.settings c.args.h _ c.requires (half c))

overflow_mul-to-2 : tie.Need-overflow_mul-to-2
overflow_mul-to-2 c = omega (arith, Workspace.cells-few c.args.settings c.args.h _ c.requires (half c))

returns : tie.Need-returns
returns c = λ below.
    let s = c in
    let a = s.args in
    let S = a.settings in
    let is = half c.before.before.before.before in
    let n = Workspace.half-power S a.h _ s.requires is in
    c.fold_down.ensures (Workspace.key_foldable S a.h _ s.requires is a.ws.now refl below)
    ∙ (λ i. fold_down S.modulus S.degree (n i) a.e (Workspace.key-cells S a.h _ s.requires is i) (n i * S.degree) a.ws.now)

pub fold_key_spec : {M : Type 1} → statement M
fold_key_spec =
    tie.close
    (tie.spec (λ c. search rules) (λ c κs. search rules) overflow_mul-to overflow_mul-to-2 (λ c κs. search rules) (λ c. search rules) returns)
