-- Elements of all rows that are lent: a row of them by value is the row as it stands in the slice, and what is tested of them.
use mathlib.Core.Path.{◌≡◌, sym, ap, ◌∙◌}
use mathlib.Core.List.{List}
use Prim.Native.Nat.{ℕ, ◌+◌, ◌*◌, ◌<◌, ◌≤◌}
use native.Mathlib.Omega.{arith}
use lib.Dec.{ltb}
use lib.ListN.{length, get_or, take, drop, length-drop}
use lib.Seq.{get_or-drop}
use Rattle.protocol.specs.declared.Settings.{Settings}
use Rattle.protocol.specs.Basic.{every, all, tabulate}
use Rattle.protocol.specs.Element.{value_row}
use Rattle.protocol.specs.Layout.{width}
use Rattle.ranges.proofs.Scan.{all_front}
use Rattle.protocol.specs.Settings.{settings_refusal, residue_element, residue_rows}
use Rattle.protocol.proofs.Agreement.{every_ext}
use Rattle.protocol.proofs.Inputs.{settings-valid}
use Rattle.protocol.proofs.Reading.{tabulate_at, row_inside}
use Rattle.protocol.proofs.Rows.{at_rows_at}
use Rattle.sizes.proofs.Limits.{degree_most}
use Rattle.verifier_refusals.specs.Lent.{lent_rows, RowsLent}

module _ (S : Settings) (allowed : settings_refusal S ≡ 0) (w : ℕ) (t : List ℕ) where
  open S use {degree as d, rows as rows}

  -- place k of row r
  pub lent_at : (r k : ℕ) → r < rows → k < d → get_or (value_row (lent_rows S w t) r) k 0 ≡ get_or t (r * w + k) 0
  unfolding lent_rows
  lent_at r k hr hk =
      let valid = settings-valid S allowed in
      at_rows_at S (λ r. tabulate d (λ k. get_or t (r * w + k) 0)) r k valid.rows_most_holds (degree_most S valid) hr hk ∙ tabulate_at d (λ k. get_or t (r * w + k) 0) 0 k hk

  pub lent_residues : every rows (λ r. every d (λ k. ltb (get_or t (r * w + k) 0) S.modulus)) ≡ residue_rows S (lent_rows S w t)
  unfolding residue_rows residue_element
  lent_residues = every_ext rows (λ r hr. every_ext d (λ k hk. ap (λ x. ltb x S.modulus) (sym (lent_at r k hr hk))))

  -- row r stands in the slice
  pub lent_inside : RowsLent S w (length t) → (r : ℕ) → r < rows → r * w + d ≤ length t
  lent_inside l r h = omega (arith, l.apart, l.long, row_inside w rows r h)

-- elements by value are so lent
pub value_residues : (S : Settings) → settings_refusal S ≡ 0 → (a : List ℕ) → residue_rows S (lent_rows S width a) ≡ residue_rows S a
unfolding residue_rows residue_element value_row
value_residues S allowed a = every_ext S.rows (λ r hr. every_ext S.degree (λ k hk. ap (λ x. ltb x S.modulus) (lent_at S allowed width a r k hr hk ∙ sym (get_or-drop (r * width) a k 0))))

-- of the numbers of a row all are tested
pub front_tested : (q at d : ℕ) (t : List ℕ) → at + d ≤ length t → all (λ x. ltb x q) (take d (drop at t)) ≡ every d (λ k. ltb (get_or t (at + k) 0) q)
front_tested q at d t h =
    all_front _ (drop at t) 0 d (omega (arith, length-drop at t)) ∙ every_ext d (λ k _. ap (λ x. ltb x q) (get_or-drop at t k 0))
