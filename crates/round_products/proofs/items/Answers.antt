use mathlib.Core.Path.{sym, ap, ◌∙◌, subst}
use Prim.Native.Nat.{ℕ, ◌*◌, ◌%◌, ◌^◌, ◌<◌}
use native.Mathlib.Omega.{arith}
use lib.ListN.{get_or}
use Rattle.protocol.specs.Element.{Element}
use Rattle.protocol.specs.Layout.{item_cells}
use Rattle.protocol.specs.Opening.{inner}
use Rattle.protocol.proofs.Inputs.{settings-valid}
use Rattle.residues.specs.Lists.{filled}
use Rattle.product_sums.specs.Sums.{messages_of, keys_of, RowsGiven}
use Rattle.product_sums.proofs.Rows.{known}
use Rattle.round_products.specs.Sums.{half, Halvables}
use Rattle.round_products.proofs.Itemwise.{written_halvable, written-times}
use Rattle.round_products.proofs.items.Goals as goal

pub returns : goal.returns
returns c = λ G z.
    let a = c.args in
    let S = a.settings in
    let q = S.modulus in
    let d = S.degree in
    let given = z.0.rows in
    let ok = settings-valid S z.0.allowed in
    let pq : 0 < q = omega (arith, ok.modulus_least) in
    let pd : 0 < d = (known a.sums _ _ _ _ _ (given.given 0 given.some)).degree in
    let F : ℕ → Element = λ r. inner d a.h (messages_of a.sums d a.h a.message.now) (keys_of a.sums q d a.h (G r)) in
    let cells = c.cells.ensures z.0.allowed in
    let n = c.item_cells.ensures.0 z.0.allowed in
    let is = c.inner_rows.ensures G
    (subst (λ m. RowsGiven a.sums q d a.h S.rows m a.message.now a.key.now G) (sym cells) given, z.1) in
    c.halve.ensures (omega (arith, n, z.1, c.inner_rows.auto.out))
    (subst (λ m. Halvables q m c.inner_rows.new.out) (sym n)
    (written_halvable q d (item_cells S) pq pd F a.out.now _ is ok.modulus_odd))
    ∙ ap (λ m. filled (λ k. half q ^ a.t * get_or c.inner_rows.new.out k 0 % q) m
    c.inner_rows.new.out) n
    ∙ written-times q d (item_cells S) pq pd F a.out.now _ is (half q ^ a.t)
