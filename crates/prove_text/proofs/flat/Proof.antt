-- `flat`: the rows stand at the front.
use mathlib.Core.Path.{sym, ◌∙◌}
use Prim.Native.Nat.{◌≤◌}
use borrow.Author.Rules.{rules}
use lib.Seq.{length-take-le, take_at}
use Rattle.protocol.specs.Layout.{rows_width}
use Rattle.prove_text.proofs.flat.Statement.{statement}
use Rattle.prove_text.proofs.flat.Tie as tie

-- the table has room for them
room : (c : tie.After-item_cells-count) → c.item_cells-count.result ≤ rows_width
room c = c.item_cells-count.ensures.1

slice_bounds-store_residues-end : tie.Need-slice_bounds-store_residues-end
slice_bounds-store_residues-end c = sym (length-take-le _ _ (room c.before))

returns : tie.Need-returns
returns c e =
    let lent = length-take-le _ _ (room c.before.before.before) ∙ c.item_cells-count.ensures.0 e in
    take_at c.store_residues.new.out _ _ (c.table-2-1.given ∙ lent) ∙ c.store_residues.ensures e lent

pub flat_spec : {M : Type 1} → statement M
flat_spec = tie.close (tie.spec (λ c κs. search rules) (λ c. search rules) slice_bounds-store_residues-end (λ c κs. search rules) returns)
