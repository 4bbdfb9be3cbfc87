-- Signed 64-bit numbers as machine words.
--
--   word-pos                 what a word holds that was made of a number from 0 on
--   word_value, word-cast    the same when it is cast to an unsigned word
--   narrow-value, narrow-cast the same for a narrow number and a word of 32 bits
use mathlib.Core.Path.{◌≡◌, sym, ap, subst, ◌∙◌}
use Prim.Native.Nat.{ℕ, ◌^◌, ◌<◌, ◌≤◌}
use native.Mathlib.Omega.{arith}
use lib.Dec.{T}
use lib.IntN.{ℤ, pos, nat_abs}
use lib.Signed.{non_neg}
use mir.Syntax.{Width, w32, w64}
use mir.Val.{Fits, of_z, to_z}
use mir.Facts.{to_z_pos}
use Rattle.text_format.specs.Text.{narrow_limit}

module _ (v : ℤ) (n : ℕ) (e : v ≡ pos n) (h : n < 2 ^ 63) where
  pub word-pos : to_z w64 (of_z w64 v) ≡ pos n
  word-pos = ap (λ z. to_z w64 (of_z w64 z)) e ∙ to_z_pos w64 {n = n} (omega arith)

  pub word_value : nat_abs (to_z w64 (of_z w64 v)) ≡ n
  word_value = ap nat_abs word-pos

  -- to any width that has room for it
  pub word-cast : (w : Width) → Fits w n → T (non_neg (to_z w64 (of_z w64 v))) × Fits w (nat_abs (to_z w64 (of_z w64 v)))
  word-cast w f = subst (λ z. T (non_neg z) × Fits w (nat_abs z)) (sym word-pos) (tt, f)

module _ (v : ℤ) (n : ℕ) (e : v ≡ pos n) (h : n ≤ narrow_limit) where
  pub narrow-value : nat_abs (to_z w64 (of_z w64 v)) ≡ n
  unfolding narrow_limit
  narrow-value = word_value v n e (omega arith)

  pub narrow-cast : T (non_neg (to_z w64 (of_z w64 v))) × Fits w32 (nat_abs (to_z w64 (of_z w64 v)))
  unfolding narrow_limit
  narrow-cast = word-cast v n e (omega arith) w32 (record { fits = omega arith })
