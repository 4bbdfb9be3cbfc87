-- Single residues, rows of them, and what a row is copied to.
--
--   BothBelow q x y        x and y are residues
--   BothSmall x y          x and y are small enough that their sum is a signed number of 32 bits
--   Residues q n at l      the n numbers of l from place `at` on are there, and are residues
--   signed n z             z, with the other sign where n holds
--   Copyable n row at out  the first n entries of a row are there, and have room in a table from place `at` on
use Rattle.std.specs.Prelude.{ℕ, ◌+◌, ◌^◌, ◌<◌, ◌≤◌, Bool, true, false, List, length, ℤ, neg_ℤ, nat_abs, slice_index}

pub record BothBelow (q x y : ℕ) : Type 0 where
  pub left : x < q
  pub right : y < q

pub record BothSmall (x y : ℤ) : Type 0 where
  pub left : nat_abs x < 2 ^ 30
  pub right : nat_abs y < 2 ^ 30

pub record Residues (q n at : ℕ) (l : List ℕ) : Type 0 where
  pub long : at + n ≤ length l
  pub each : (k : ℕ) → k < n → slice_index l (at + k) < q

unfoldable pub signed : Bool → ℤ → ℤ
signed true z = neg_ℤ z
signed false z = z

pub record Copyable {A : Type 0} (n : ℕ) (row : List A) (at : ℕ) (out : List A) : Type 0 where
  pub there : n ≤ length row
  pub room : at + n ≤ length out
