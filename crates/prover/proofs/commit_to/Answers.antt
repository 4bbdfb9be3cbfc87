use Rattle.std.proofs.Common.{◌≡◌, refl, sym, ap, ◌∙◌, subst, false, arith}
use Rattle.protocol.specs.Settings.{cells}
use Rattle.protocol.specs.Layout.{item_cells}
use Rattle.protocol.specs.Opening.{left}
use Rattle.protocol.specs.Rows.{key_row}
use Rattle.protocol.specs.Calls.{commit_refusal}
use Rattle.residues.specs.Lists.{filled}
use Rattle.prover_refusals.proofs.Given.{commit_key}
use Rattle.product_sums.specs.Sums.{RowsGiven}
use Rattle.plain_products.specs.Sums.{inner_element}
use Rattle.plain_products.specs.Rowwise.{row_places}
use Rattle.prover.proofs.Values.{commit_rows_given, commitment-item}
use Rattle.prover.proofs.commit_to.Goals as goal

pub returns : goal.returns
returns c =
    let a = c.args in
    let S = a.settings in
    let G = a.key.now in
    let m = a.message.now in
    let count = c.left in
    let z : commit_refusal S G m ≡ 0 = sym c.in_ok-commit.ensures in
    let ok = (commit_key S G m z).0 in
    let n : count.result ≡ left S 0 = count.ensures (record { allowed = ok; most = omega arith }) in
    let given = subst (λ w. RowsGiven false S.modulus S.degree count.result S.rows w m G (key_row S G)) (sym (c.cells.ensures ok))
    (subst (λ k. RowsGiven false S.modulus S.degree k S.rows (cells S) m G (key_row S G)) (sym n) (commit_rows_given S G m z)) in
    record {
      refusal = sym z;
      kept = λ r. absurd (r refl);
      written = λ _ room.
          c.inner_rows.ensures (key_row S G) (given, room)
          ∙ ap (λ k. filled (row_places S.degree (λ r. inner_element false S.modulus S.degree k m (key_row S G r))) (item_cells S) a.out.now) n
          ∙ commitment-item S G m z a.out.now;
    }
