-- The claims of the items before item i stand at the front.
use Rattle.std.proofs.Common.{◌≡◌, ◌*◌, length}
use Rattle.protocol.specs.Basic.{Provided}
use Rattle.protocol.specs.Layout.{claim_cells}
use Rattle.residues.specs.Lists.{filled}
use Rattle.claim_tables.specs.Claims.{Given}
use Rattle.claim_tables.proofs.Claiming.{places}
use Rattle.claim_tables.proofs.store.Given as goal

abbrev pub invariant-loop-i : goal.invariant-loop-i
invariant-loop-i l =
    let S = l.fn.settings in
    Provided (Given S l.rounds) (Provided (length l.initial.claims ≡ claim_cells S) (l.claims ≡ filled (places S l.rounds l.challenges) (l.i * S.degree) l.initial.claims))
