-- Tables that are written row by row, and the parts of tables as the code lends them and is handed them back.
--
--   lent_row                      a row of a key, as it is lent
--   keys_given, tails_given       the rows of a key, and their parts from a place on, as they are handed to inner products
--   Written S d f l ..            a loop over the rows of a key has written d numbers for each of r rows into l; it goes on with the key from place `from` on, and with l from `at` on
use mathlib.Core.Path.{◌≡◌, sym, ap, ◌∙◌}
use mathlib.Core.Bool.{Bool}
use mathlib.Core.List.{List}
use Prim.Native.Nat.{ℕ, ◌+◌, ◌*◌, ◌-◌, ◌<◌, ◌≤◌}
use native.Mathlib.Nat as Nat
use native.Mathlib.Omega.{arith}
use lib.IntN.{ℤ}
use lib.ListN.{length, get_or, take, drop, length-drop}
use lib.Seq.{length-take-le, get_or-drop, get_or-take}
use Rattle.protocol.specs.declared.Settings.{Settings}
use Rattle.protocol.specs.Settings.{settings_refusal, cells}
use Rattle.protocol.proofs.Inputs.{settings-valid}
use Rattle.protocol.specs.Layout.{key_cells}
use Rattle.protocol.specs.Rows.{key_row}
use Rattle.protocol.proofs.Reading.{row_inside, tabulate_at, tabulate_own, tabulate_ext}
use Rattle.protocol.proofs.Rows.{key-cells}
use Rattle.prover_refusals.proofs.Given.{first_row}
use Rattle.residues.specs.Lists.{filled}
use Rattle.residues.proofs.Fill.{filled_none}
use Rattle.residues.proofs.Parts.{tail_at, tail-length}
use Rattle.plain_products.specs.Rowwise.{row_places}
use Rattle.product_sums.specs.Sums.{size_of, Given}
use Rattle.round_products.specs.Items.{ItemsGiven}

-- a table from place s on, as the code lends it
abbrev pub tail {ℓ} : {A : Type ℓ} → ℕ → List A → List A
tail s l = take (length l - s) (drop s l)

-- ---- a row of a key

pub row_long : (S : Settings) (key : List ℕ) (r : ℕ) → length key ≡ key_cells S → r < S.rows → r * cells S + cells S ≤ length key
row_long S key r e h = omega (arith, row_inside (cells S) S.rows r h, key-cells S)

pub lent_row : (S : Settings) (key : List ℕ) (r : ℕ) → length key ≡ key_cells S → r < S.rows → take (cells S) (drop (r * cells S) key) ≡ key_row S key r
unfolding key_row
lent_row S key r e h =
    sym (tabulate_own (cells S) (take (cells S) (drop (r * cells S) key)) 0
    (length-take-le (cells S) (drop (r * cells S) key) (omega (arith, length-drop (r * cells S) key, row_long S key r e h))))
    ∙ tabulate_ext (cells S) (λ p l. get_or-take (cells S) (drop (r * cells S) key) p 0 l ∙ get_or-drop (r * cells S) key p 0)

-- ---- the rows of a key, as they are handed to inner products

module _ (S : Settings) (key : List ℕ) (ok : settings_refusal S ≡ 0) (long : length key ≡ key_cells S) (sums : Bool) (h : ℕ) (f : List ℤ) where
  open S use {degree as d, modulus as q}

  row_at : (r p : ℕ) → p < cells S → get_or key (r * cells S + p) 0 ≡ get_or (key_row S key r) p 0
  unfolding key_row
  row_at r p l = sym (tabulate_at (cells S) (λ p. get_or key (r * cells S + p) 0) 0 p l)

  pub keys_given : size_of sums d h ≤ cells S → ((r : ℕ) → r < S.rows → Given sums q d h f (key_row S key r)) → ItemsGiven sums S h f key (key_row S key)
  keys_given most given = record {
    allowed = ok;
    rows = record {
      some = first_row S ok;
      most = (settings-valid S ok).rows_most_holds;
      long = λ r l. omega (arith, row_long S key r long l);
      alike = λ r p _ m. row_at r p (omega arith);
      given = given;
    };
  }

  -- the same from place s of each row on
  pub tails_given : (s : ℕ) → s + size_of sums d h ≤ cells S → ((r : ℕ) → r < S.rows → Given sums q d h f (tail s (key_row S key r))) → ItemsGiven sums S h f (tail s key) (λ r. tail s (key_row S key r))
  tails_given s most given = record {
    allowed = ok;
    rows = record {
      some = first_row S ok;
      most = (settings-valid S ok).rows_most_holds;
      long = λ r l. omega (arith, row_long S key r long l, tail-length s key);
      alike = λ r p _ m.
          tail_at s key (r * cells S + p) 0
          ∙ ap (λ i. get_or key i 0) {x = s + (r * cells S + p)} {y = r * cells S + (s + p)} (omega arith)
          ∙ row_at r (s + p) (omega arith)
          ∙ sym (tail_at s (key_row S key r) p 0);
      given = given;
    };
  }

-- ---- a loop over the rows of a key

pub record Written (S : Settings) (d : ℕ) (f : ℕ → List ℕ) (l : List ℕ) (r from at : ℕ) (s : List ℕ) : Type 0 where
  pub from_is : from ≡ r * cells S
  pub at-is : at ≡ r * d
  pub is : s ≡ filled (row_places d f) (r * d) l

module _ (S : Settings) (d : ℕ) (f : ℕ → List ℕ) (l : List ℕ) where
  pub written_none : Written S d f l 0 0 0 l
  written_none = record {
    from_is = sym (Nat.zero-mul (cells S));
    at-is = sym (Nat.zero-mul d);
    is = filled_none (row_places d f) l ∙ ap (λ n. filled (row_places d f) n l) (sym (Nat.zero-mul d));
  }

  pub written_all : {r from at : ℕ} {s : List ℕ} → Written S d f l r from at s → r ≡ S.rows → s ≡ filled (row_places d f) (S.rows * d) l
  written_all w e = w.is ∙ ap (λ n. filled (row_places d f) (n * d) l) e

  module _ {r from at : ℕ} {s : List ℕ} (w : Written S d f l r from at s) (h : r < S.rows) where
    pub table_room : S.rows * d ≤ length l → at + d ≤ length l
    table_room room = omega (arith, row_inside d S.rows r h, w.at-is)

    module _ (key : List ℕ) (long : length key ≡ key_cells S) where
      pub key_room : from + cells S ≤ length key
      key_room = omega (arith, row_long S key r long h, w.from_is)

      pub lent : (m : ℕ) → m ≡ cells S → take m (drop from key) ≡ key_row S key r
      lent m e = (λ i. take (e i) (drop (w.from_is i) key)) ∙ lent_row S key r long h
