-- The shapes of the parts where items can be counted.
--
--   part-counted             the part of a number where depth and rows are not more than are allowed
--   part-deep, part-many     and where one of them is
--   part_of_holds, lengths-counted the part of a number, and the test of the lengths, where the settings are allowed
use mathlib.Core.Path.{◌≡◌, ap}
use mathlib.Core.Bool.{◌&&◌}
use mathlib.Core.List.{List}
use Prim.Native.Nat.{ℕ, ◌≤◌, ◌<◌}
use borrow.Author.Tests.{le-leb, lt-leb}
use lib.Dec.{leb}
use Rattle.protocol.specs.declared.Settings.{Settings}
use Rattle.protocol.specs.declared.Parts.{Parts}
use Rattle.protocol.specs.Basic.{choose}
use Rattle.protocol.specs.Layout.{rows_most}
use Rattle.protocol.specs.Settings.{depth_allowed, settings_refusal}
use Rattle.text_format.specs.Text.{settings_shape}
use Rattle.protocol.proofs.Inputs.{settings-valid}
use Rattle.text_parts.specs.Parts.{counted, part_shape, part_of, lengths_are, lengths_fit}

module _ (S : Settings) (P : Parts) where
  pub part-counted : (k : ℕ) → S.depth ≤ 8 → S.rows ≤ rows_most → part_of S P k ≡ part_shape S P k
  unfolding part_of counted depth_allowed choose
  part-counted k h r = λ j. choose (le-leb _ _ h j && le-leb _ _ r j) (part_shape S P k) settings_shape

  pub part-deep : (k : ℕ) → 8 < S.depth → part_of S P k ≡ settings_shape
  unfolding part_of counted depth_allowed choose
  part-deep k h = ap (λ b. choose (b && leb S.rows rows_most) (part_shape S P k) settings_shape) (lt-leb _ _ h)

  pub part-many : (k : ℕ) → S.depth ≤ 8 → rows_most < S.rows → part_of S P k ≡ settings_shape
  unfolding part_of counted depth_allowed choose
  part-many k h r = λ j. choose (le-leb _ _ h j && lt-leb _ _ r j) (part_shape S P k) settings_shape

  module _ (allowed : settings_refusal S ≡ 0) where
    pub part_of_holds : (k : ℕ) → part_of S P k ≡ part_shape S P k
    part_of_holds k = let v = settings-valid S allowed in part-counted k v.depth_most v.rows_most_holds

    pub lengths-counted : (n : List ℕ) → lengths_are (part_of S P) n ≡ lengths_fit S P n
    lengths-counted n = λ j. lengths_are (λ k. part_of_holds k j) n
