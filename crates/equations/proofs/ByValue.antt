-- What is passed by value for each row: the part from a row's place on is the row; and a row's part of a key.
use mathlib.Core.Path.{◌≡◌, sym, ap, ◌∙◌, subst}
use mathlib.Core.Bool.{true}
use mathlib.Core.List.{List}
use Prim.Native.Nat.{ℕ, ◌+◌, ◌*◌, ◌-◌, ◌<◌, ◌≤◌}
use native.Mathlib.Nat as Nat
use native.Mathlib.Omega.{arith}
use borrow.Author.Tests.{ltb-true}
use lib.Dec.{ltb}
use lib.ListN.{length, get_or, take, drop, length-drop}
use lib.Seq.{get_or-drop, get_or-take, length-take-le}
use Rattle.protocol.specs.declared.Settings.{Settings}
use Rattle.protocol.specs.Basic.{tabulate}
use Rattle.protocol.specs.Element.{width, value_row}
use Rattle.protocol.specs.Layout.{rows_most, key_cells}
use Rattle.protocol.specs.Settings.{settings_refusal, cells, residue_element, residue_rows}
use Rattle.protocol.specs.Inputs.{Valid}
use Rattle.protocol.proofs.Inputs.{settings-valid}
use Rattle.protocol.specs.Rows.{key_row}
use Rattle.protocol.proofs.Reading.{row_inside, tabulate_ext, tabulate_own}
use Rattle.protocol.proofs.Rows.{key-cells}
use Rattle.protocol.proofs.Tests.{every_at}
use Rattle.sizes.specs.Most.{cells_most}
use Rattle.sizes.proofs.Limits.{cells_most_lem}
use Rattle.residues.proofs.Parts.{tail_all}
use Rattle.equations.specs.Given.{ElementReduced}
use Rattle.equations.proofs.Polynomials.{part}

pub value-part : (C : List ℕ) (i : ℕ) → part (i * width) C ≡ value_row C i
unfolding value_row
value-part C i = tail_all (i * width) C

module _ (S : Settings) where
  open S use {degree as d, rows as rows}

  pub row_reduced : (C : List ℕ) → residue_rows S C ≡ true → (i : ℕ) → i < rows → ElementReduced S (value_row C i)
  unfolding residue_rows residue_element
  row_reduced C t i h k l = ltb-true _ _ (every_at d (λ k. ltb (get_or (value_row C i) k 0) S.modulus) (every_at rows (λ r. residue_element S (value_row C r)) t i h) k l)

  -- the part of a key that is lent for a row, of n numbers: it stands in the key, which is not long, and is the row
  pub record KeyPart (key : List ℕ) (i n : ℕ) : Type 0 where
    pub inside : i * n + n ≤ length key
    pub few : length key ≤ rows_most * cells_most
    pub row : take (i * n + n - i * n) (drop (i * n) key) ≡ key_row S key i

  pub key_part : settings_refusal S ≡ 0 → (key : List ℕ) (i n : ℕ) → n ≡ cells S → i < rows → length key ≡ key_cells S → KeyPart key i n
  unfolding key_row
  key_part e key i n is h long = record {
    inside = all;
    few = omega (arith, long, key-cells S, Nat.mul-le-mul {n₁ = rows} {m₁ = cells S} {n₂ = rows_most} {m₂ = cells_most} ok.rows_most_holds (cells_most_lem S ok));
    row =
        ap (λ m. take m (drop (i * n) key)) {x = i * n + n - i * n} {y = n} (omega arith)
        ∙ sym (tabulate_own n (take n (drop (i * n) key)) 0 (length-take-le n (drop (i * n) key) (omega (arith, length-drop (i * n) key, all))))
        ∙ tabulate_ext n (λ p l. get_or-take n (drop (i * n) key) p 0 l ∙ get_or-drop (i * n) key p 0)
        ∙ ap (λ n. tabulate n (λ p. get_or key (i * n + p) 0)) is;
  }
    where
      ok : Valid S
      ok = settings-valid S e

      all : i * n + n ≤ length key
      all = subst (λ n. i * n + n ≤ length key) (sym is) (omega (arith, row_inside (cells S) rows i h, key-cells S, long))
