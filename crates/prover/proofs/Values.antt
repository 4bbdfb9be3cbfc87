-- The items of the prover's answers, as they are passed by value.
use mathlib.Core.Path.{◌≡◌, sym, ap, ◌∙◌}
use mathlib.Core.Bool.{false}
use mathlib.Core.List.{List, [], ◌∷◌}
use Prim.Native.Nat.{ℕ, ◌+◌, ◌*◌, ◌≤◌}
use native.Mathlib.Nat.{mul-le-mul}
use native.Mathlib.Omega.{arith}
use lib.IntN.{ℤ}
use lib.ListN.{length, get_or, take}
use lib.Seq.{get_or-take}
use Rattle.protocol.specs.declared.Settings.{Settings}
use Rattle.protocol.specs.Basic.{tabulate}
use Rattle.protocol.specs.Element.{zeros, reduced, signed_at, residue_at}
use Rattle.protocol.specs.Settings.{settings_refusal, cells}
use Rattle.protocol.specs.Layout.{item_cells, rows_width}
use Rattle.protocol.specs.Opening.{inner, left, commitment}
use Rattle.protocol.specs.Rows.{key_row, at_rows, together}
use Rattle.protocol.specs.Calls.{commit_refusal, commit_answer, polynomial}
use Rattle.protocol.proofs.Inputs.{settings-valid}
use Rattle.protocol.proofs.Tests.{granted-zero}
use Rattle.protocol.proofs.Rows.{key_row-length}
use Rattle.protocol.proofs.Reading.{cell-inside, cell-element, cell-place, tabulate_at}
use Rattle.residues.specs.Lists.{filled}
use Rattle.residues.proofs.Fill.{zeros-length, filled_at}
use Rattle.sizes.proofs.Limits.{degree_most}
use Rattle.prover_refusals.proofs.Given.{first_row, commit_given, commit_key}
use Rattle.product_sums.specs.Sums.{size_of, messages_of, keys_of, Given, RowsGiven}
use Rattle.plain_products.specs.Sums.{inner_element}
use Rattle.plain_products.specs.Rowwise.{row_places}
use Rattle.round_products.specs.Items.{round_item, Sent}
use Rattle.round_products.proofs.Products.{summable, left_whole, commit-tables}
use Rattle.round_products.proofs.Rowwise.{keys_given}
use Rattle.slices.specs.Slices.{values_of}
use Rattle.slices.proofs.Laws.{element_back}
use Rattle.slices.proofs.Rows.{at_rows_ext}
use Rattle.prover.specs.Rowwise.{committed}

-- an item of the elements f r of the rows r
pub item_by-value : (S : Settings) (f : ℕ → List ℕ) (l s : List ℕ) → s ≡ filled (row_places S.degree f) (item_cells S) l → values_of S s ≡ at_rows S f
unfolding values_of
item_by-value S f l s e = at_rows_ext S _ f (λ r k a b.
    tabulate_at S.degree (λ k. get_or s (r * S.degree + k) 0) 0 k b
    ∙ ap (λ x. get_or x (r * S.degree + k) 0) e
    ∙ filled_at (row_places S.degree f) (item_cells S) l 0 (r * S.degree + k) (cell-inside S.degree S.rows r k a b)
    ∙ λ i. get_or (f (cell-element S.degree r k b i)) (cell-place S.degree r k b i) 0)

-- of a table only the item is read, with which it begins
pub item-front : (S : Settings) (n : ℕ) → n ≡ item_cells S → (l : List ℕ) → values_of S (take n l) ≡ values_of S l
unfolding values_of
item-front S n e l = at_rows_ext S _ _ (λ r k a b.
    tabulate_at S.degree (λ k. get_or (take n l) (r * S.degree + k) 0) 0 k b
    ∙ get_or-take n l (r * S.degree + k) 0 (omega (arith, cell-inside S.degree S.rows r k a b))
    ∙ sym (tabulate_at S.degree (λ k. get_or l (r * S.degree + k) 0) 0 k b))

pub item_room : (S : Settings) → settings_refusal S ≡ 0 → item_cells S ≤ length (zeros rows_width)
item_room S ok = omega (
  arith,
  (settings-valid S ok).rows_most_holds,
  degree_most S (settings-valid S ok),
  mul-le-mul {n₁ = S.rows} {m₁ = S.degree} {n₂ = 4} {m₂ = 128}
      (settings-valid S ok).rows_most_holds (degree_most S (settings-valid S ok)),
  zeros-length rows_width,
)

-- ---- the commitment

module _ (S : Settings) (key : List ℕ) (message : List ℤ) (z : commit_refusal S key message ≡ 0) where
  pub commit_rows_given : RowsGiven false S.modulus S.degree (left S 0) S.rows (cells S) message key (key_row S key)
  unfolding size_of Given
  commit_rows_given =
      let (ok, long) = commit_key S key message z in
      (keys_given S key ok long false (left S 0) message (omega (arith, (commit-tables S (key_row S key 0) message (commit_given S key message z 0 (first_row S ok))).key_long, key_row-length S key 0))
      (λ r l. summable _ _ _ _ _ (commit-tables S (key_row S key r) message (commit_given S key message z r l)))).rows

  pub commitment-item : (l : List ℕ)
      → filled (row_places S.degree (λ r. inner_element false S.modulus S.degree (left S 0) message (key_row S key r))) (item_cells S) l ≡ filled
      (row_places S.degree (committed S key message)) (item_cells S) l
  unfolding commitment messages_of keys_of
  commitment-item l = ap (λ n. filled (row_places S.degree (λ r. reduced S.modulus S.degree
      (inner S.degree n (signed_at S.degree message) (residue_at S.degree (key_row S key r))))) (item_cells S) l) (left_whole S)

-- a table that is nothing but the commitment
pub commit-stored : (S : Settings) → settings_refusal S ≡ 0 → (key : List ℕ) (message : List ℤ) → commit_refusal S key message ≡ 0 → (l s : List ℕ) → length s ≡ item_cells S
    → s ≡ filled (row_places S.degree (committed S key message)) (item_cells S) l → s ≡ together S (commit_answer S key message).commitment
unfolding commit_answer
commit-stored S ok key message z l s long e =
    sym (element_back S (settings-valid S ok) s long) ∙ ap (together S) (item_by-value S (committed S key message) l s e ∙ sym
    (granted-zero _ (at_rows S (committed S key message)) (zeros rows_width) z))

-- ---- the round polynomial

pub polynomial_by_value : (S : Settings) (t : ℕ) (key : List ℕ) (message : List ℤ) (l0 l1 l2 c0 c1 c2 : List ℕ) → Sent S t key message l0 l1 l2 c0 c1 c2
    → values_of S c0 ∷ values_of S c1 ∷ values_of S c2 ∷ [] ≡ polynomial S t key message
unfolding polynomial tabulate
polynomial_by_value S t key message l0 l1 l2 c0 c1 c2 w =
    let first = item_by-value S (round_item S t key message 0) l0 c0 w.first in
    let middle = item_by-value S (round_item S t key message 1) l1 c1 w.middle in
    let last = item_by-value S (round_item S t key message 2) l2 c2 w.last in
    λ i. first i ∷ middle i ∷ last i ∷ []
