-- The items of row r in the part of a table that begins at element r: those of the row in the whole table.
use mathlib.Core.Path.{◌≡◌, sym, ap, ◌∙◌}
use mathlib.Core.List.{List}
use Prim.Native.Nat.{ℕ, ◌+◌, ◌*◌, ◌<◌, ◌≤◌}
use native.Mathlib.Nat as Nat
use native.Mathlib.Decide.{dec_le}
use native.Mathlib.Omega.{arith}
use borrow.Author.Tests.{le-leb, lt-leb}
use lib.IntN.{pos}
use lib.ListN.{length, get_or, get_or-eq_default}
use Rattle.protocol.specs.declared.Settings.{Settings}
use Rattle.protocol.specs.Basic.{choose}
use Rattle.protocol.specs.Element.{residue_at}
use Rattle.protocol.specs.Layout.{item_cells}
use Rattle.protocol.specs.Rows.{row_items}
use Rattle.protocol.proofs.Agreement.{Same}
use Rattle.protocol.proofs.Reading.{flat_at, flat_ext}
use Rattle.protocol.proofs.Rows.{row_items-element}
use Rattle.residues.proofs.Parts.{tail_at}
use Rattle.equations.specs.Items.{row_start, row_element, row_table}
use Rattle.equations.proofs.Polynomials.{part}

module _ (S : Settings) where
  open S use {degree as d, rows as rows}

  -- the numbers of n items
  pub items-cells : (n : ℕ) → rows * n * d ≡ n * item_cells S
  items-cells n = ap (λ x. x * d) (Nat.mul_comm rows n) ∙ Nat.mul_assoc n rows d

  -- the items of a row as a table of their own
  pub table-element : (n : ℕ) (t : List ℕ) (i : ℕ) → i < n → Same d (residue_at d (row_table S n t) i) (row_element S t i)
  unfolding residue_at row_element row_table
  table-element n t i h k l = ap pos (flat_at d n (λ i k. get_or t (i * item_cells S + k) 0) 0 i k h l)

  -- where a row begins
  pub start-inside : (n r : ℕ) → r * d ≤ n → row_start S n r ≡ r * d
  unfolding row_start
  start-inside n r h = unfold choose in (λ z. choose (le-leb (r * d) n h z) (r * d) n)

  pub start-end : (n r : ℕ) → n < r * d → row_start S n r ≡ n
  unfolding row_start
  start-end n r h = unfold choose in (λ z. choose (lt-leb (r * d) n h z) (r * d) n)

  pub start_most : (n r : ℕ) → (row_start S n r ≤ n) × (row_start S n r ≤ r * d)
  start_most n r = elim (dec_le (r * d) n) [
    | yes h ↦ let e = start-inside n r h in (omega (arith, e), omega (arith, e))
    | no h ↦ let e = start-end n r (omega arith) in (omega (arith, e), omega (arith, e))
  ]

  module _ (table : List ℕ) (r : ℕ) where
    place : (i k : ℕ) → r * d + (i * item_cells S + k) ≡ (rows * i + r) * d + k
    place i k = omega (arith, Nat.add-mul (rows * i) r d, Nat.mul_assoc i rows d, ap (λ x. x * d) (Nat.mul_comm i rows))

    read : (i k : ℕ) → get_or (part (r * d) table) (i * item_cells S + k) 0 ≡ get_or table ((rows * i + r) * d + k) 0
    read i k = tail_at (r * d) table (i * item_cells S + k) 0 ∙ ap (λ x. get_or table x 0) (place i k)

    pub row_element_lem : (i k : ℕ) → row_element S (part (r * d) table) i k ≡ residue_at d table (rows * i + r) k
    unfolding row_element residue_at
    row_element_lem i k = ap pos (read i k)

    pub row_item : (n i : ℕ) → i < n → Same d (row_element S (part (r * d) table) i) (residue_at d (row_items S n table r) i)
    row_item n i h k l = row_element_lem i k ∙ sym (row_items-element S n table r i k h l)

    -- the row as a table; behind the end zeros are read
    behind : length table < r * d → (i k : ℕ) → get_or (part (length table) table) (i * item_cells S + k) 0 ≡ get_or table ((rows * i + r) * d + k) 0
    behind h i k =
        tail_at (length table) table (i * item_cells S + k) 0
        ∙ get_or-eq_default table 0 (omega arith)
        ∙ sym (get_or-eq_default table 0 (omega (arith, place i k)))

    pub row_table_lem : (n : ℕ) → 0 < d → row_table S n (part (row_start S (length table) r) table) ≡ row_items S n table r
    unfolding row_table row_items
    row_table_lem n p = elim (dec_le (r * d) (length table)) [
      | yes h ↦ ap (λ at. row_table S n (part at table)) (start-inside (length table) r h) ∙ flat_ext d n p (λ i k _ _. read i k)
      | no h ↦ let b : length table < r * d = omega arith in ap (λ at. row_table S n (part at table)) (start-end (length table) r b) ∙ flat_ext d n p (λ i k _ _. behind b i k)
    ]
