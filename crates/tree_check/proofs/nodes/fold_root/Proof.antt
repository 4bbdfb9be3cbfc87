use mathlib.Core.Path.{◌≡◌}
use native.Mathlib.Nat as Nat
use native.Mathlib.Omega.{arith}
use Rattle.protocol.specs.Opening.{half_left}
use Rattle.tree_check.proofs.Root.{half-few, copy-room, root_foldable, root-folded}
use borrow.Author.Rules.{rules}
use Rattle.tree_check.proofs.nodes.fold_root.Statement.{statement}
use Rattle.tree_check.proofs.nodes.fold_root.Tie as tie

half : (c : tie.After-half_left-n) → c.half_left-n.result ≡ half_left c.args.settings 0
half c = c.half_left-n.ensures (record { allowed = c.requires.allowed; turn = c.requires.up })

overflow_mul-to : tie.Need-overflow_mul-to
overflow_mul-to c = omega (arith, half-few c.args.settings c.args.e _ c.args.key.now c.args.ws.now c.requires (half c.before))

overflow_cast-to : tie.Need-overflow_cast-to
overflow_cast-to c = omega (arith, half-few c.args.settings c.args.e _ c.args.key.now c.args.ws.now c.requires (half c.before))

returns : tie.Need-returns
returns c = λ below.
    let h = c.before.before.before.before.before.before.before.before.before in
    let a = c.args in
    let S = a.settings in
    let key = a.key.now in
    let z = a.ws.now in
    let copied = c.store.ensures (record { there = Nat.le_refl _; room = copy-room S a.e _ key z c.requires (half h) }) in
    root-folded S a.e c.half_left-n.result key z c.requires (half h) _
    (rw (← copied) (c.fold_down.ensures (rw copied (root_foldable S a.e c.half_left-n.result key z c.requires (half h) below))))

pub fold_root_spec : {M : Type 1} → statement M
fold_root_spec = tie.close (tie.spec (λ c κs. search rules) overflow_mul-to overflow_cast-to (λ c κs. search rules) (λ c κs. search rules) (λ c. search rules) returns)
