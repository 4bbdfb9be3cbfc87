-- `claims_of`: the claims stand at the front.
use mathlib.Core.Path.{sym, ◌∙◌}
use Prim.Native.Nat.{◌≤◌}
use native.Mathlib.Omega.{arith}
use borrow.Author.Rules.{rules}
use lib.Seq.{length-take-le, take_at}
use Rattle.claim_tables.specs.Claims.{claims_room}
use Rattle.claim_tables.proofs.Claiming.{claims-few}
use Rattle.prove_text.proofs.claims_of.Statement.{statement}
use Rattle.prove_text.proofs.claims_of.Tie as tie

returns-then-count-gt-ROOM : tie.Need-returns-then-count-gt-ROOM
returns-then-count-gt-ROOM c = λ g. absurd (omega (arith, claims-few _ g.allowed, c.claim_cells-count.ensures g.allowed, c.if-count-gt-ROOM.true))

-- the table has room for them
room : (c : tie.Else-count-gt-ROOM) → c.claim_cells-count.result ≤ claims_room
room c = omega arith

slice_bounds-store-end : tie.Need-slice_bounds-store-end
slice_bounds-store-end c = sym (length-take-le _ _ (room c.before))

returns : tie.Need-returns
returns c = λ g.
    let lent = length-take-le _ _ (room c.before.before.before) ∙ c.claim_cells-count.ensures g.allowed in
    take_at c.store.new.claims _ _ (c.table-2-1.given ∙ lent) ∙ c.store.ensures g lent

pub claims_of_spec : {M : Type 1} → statement M
claims_of_spec = tie.close (tie.spec (λ c κs. search rules) returns-then-count-gt-ROOM (λ c. search rules) slice_bounds-store-end (λ c κs. search rules) returns)
