use mathlib.Core.Path.{◌≡◌, sym, ap, ◌∙◌, subst}
use Prim.Native.Nat.{◌*◌, ◌/◌, ◌%◌, ◌^◌, ◌≤◌}
use native.Mathlib.Nat.{mul-le-mul}
use native.Mathlib.Omega.{arith}
use lib.ListN.{length, get_or}
use Rattle.protocol.specs.Element.{zeros}
use Rattle.protocol.specs.Settings.{half}
use Rattle.protocol.specs.Layout.{left, item_cells}
use Rattle.protocol.specs.Rows.{key_row}
use Rattle.residues.specs.Lists.{filled}
use Rattle.residues.specs.Residues.{Residues}
use Rattle.prover_refusals.proofs.Given.{commit_key}
use Rattle.round_products.specs.Sums.{Halvables}
use Rattle.round_products.proofs.Rowwise.{tail}
use Rattle.opening_rounds.specs.Rounds.{sum_at}
use Rattle.opening_rounds.proofs.Beginning.{half-inside, first_rows, second_rows, first_halvable, first_begun, both_residues, commitment_begun, item-some}
use Rattle.opening_rounds.proofs.begin.Goals as goal

pub returns-then-commitments-n : goal.returns-then-commitments-n
returns-then-commitments-n c = λ z.
    let a = c.args in
    let none : item_cells a.settings ≤ length a.commitments.now → ⊥ = λ room. omega (
      arith,
      c.item_cells-n.ensures.0
          (commit_key a.settings a.key.now a.message.now z).0,
    ) in
    record { commits = λ room. absurd (none room); first = λ room _. absurd (none room); none = λ room _. absurd (none room) }

pub overflow_mul-half : goal.overflow_mul-half
overflow_mul-half c = omega (
  arith,
  mul-le-mul {n₁ = c.left-all.result / 2} {m₁ = c.args.settings.degree} {n₂ = 4294967295} {m₂ = 4294967295}
      (omega arith) (omega arith),
)

pub returns-then-message-half : goal.returns-then-message-half
returns-then-message-half c = λ z.
    let a = c.args in
    let S = a.settings in
    let is : c.left-all.result ≡ left S 0 = c.left-all.ensures (record { allowed = (commit_key S a.key.now a.message.now z).0; most = omega arith }) in
    absurd (omega (arith, (half-inside S a.key.now a.message.now z c.left-all.result is).0))

pub returns-then-key-half : goal.returns-then-key-half
returns-then-key-half c = λ z.
    let a = c.args in
    let S = a.settings in
    let is : c.left-all.result ≡ left S 0 = c.left-all.ensures (record { allowed = (commit_key S a.key.now a.message.now z).0; most = omega arith }) in
    absurd (omega (arith, (half-inside S a.key.now a.message.now z c.left-all.result is).1))

pub returns : goal.returns
unfolding half zeros
returns c = λ z.
    let a = c.args in
    let S = a.settings in
    let m = a.message.now in
    let G = a.key.now in
    let C = a.commitments.now in
    let ok = (commit_key S G m z).0 in
    let n = c.left-all.result in
    let is : n ≡ left S 0 = c.left-all.ensures (record { allowed = ok; most = omega arith }) in
    let size = c.item_cells-n.ensures.0 ok in
    let cells = c.cells.ensures ok in
    let C1 = c.inner_rows.new.out in
    let C2 = c.inner_rows-2.new.out in
    let room : item_cells S ≤ length C = omega (arith, size) in
    let long1 : item_cells S ≤ length C1 = omega (
      arith,
      room,
      c.inner_rows.auto.out,
    ) in
    let long2 : item_cells S ≤ length C2 = omega (
      arith,
      size,
      c.item_cells-n.ensures.1,
      c.inner_rows-2.auto.out,
    ) in
    let is1 = c.inner_rows.ensures (key_row S G)
    (first_rows S G m z n is _ cells, room) in
    let is2 = c.inner_rows-2.ensures (λ r. tail (n / 2 * S.degree) (key_row S G r)) (
      second_rows S G m z n is _ cells,
      omega (
        arith,
        size,
        c.item_cells-n.ensures.1,
      ),
    ) in
    record {
      commits = λ _.
          c.add_table.ensures (subst (λ k. Residues S.modulus k 0 C1 × Residues S.modulus k 0 C2) (sym size) (both_residues S G m z n is C C1 is1 _ C2 is2 long1 long2))
          ∙ ap (λ k. filled (sum_at S.modulus C1 C2) k C1) size
          ∙ commitment_begun S G m z n is C C1 is1 _ C2 is2 long1 long2;
      first = λ _ more.
          c.write_halved.ensures.0 (omega (arith, size))
          (subst (λ k. Halvables S.modulus k C1) (sym size) (first_halvable S G m z n is C C1 is1))
          ∙ ap (λ k. filled (λ j. half S ^ 1 * get_or C1 j 0 % S.modulus) k a.rounds.now) size
          ∙ first_begun S G m z n is C C1 is1 a.rounds.now;
      none = λ _ short. c.write_halved.ensures.1 (omega (arith, size, item-some S ok));
    }
