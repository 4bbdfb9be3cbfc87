use Rattle.std.proofs.Common.{◌≡◌, ◌≤◌, length}
use Rattle.protocol.specs.Basic.{Provided}
use Rattle.protocol.specs.Settings as layout
use Rattle.protocol.specs.Opening.{fold_key}
use Rattle.protocol.specs.Rows.{key_row}
use Rattle.round_products.proofs.Rowwise.{Written}
use Rattle.prover.specs.Rowwise.{KeysGiven}
use Rattle.prover.proofs.fold_keys.Given as goal

abbrev pub invariant-loop-r : goal.invariant-loop-r
invariant-loop-r l =
    (l.from ≤ length l.fn.key) × (length l.key ≡ length l.fn.key)
    × Provided (KeysGiven l.settings l.done l.fn.key)
    (Written l.settings (layout.cells l.settings) (λ i. fold_key l.settings l.done l.e (key_row l.settings l.fn.key i)) l.fn.key l.r l.from l.from l.key)
