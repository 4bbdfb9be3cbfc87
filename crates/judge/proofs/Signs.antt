-- The residue of a signed number, by what is left without its sign.
use mathlib.Core.Path.{◌≡◌, refl, sym, ◌∙◌}
use mathlib.Core.Bool.{true, false, false≢true}
use Prim.Native.Nat.{ℕ, ◌+◌, ◌-◌, ◌%◌}
use native.Mathlib.Omega.{arith}
use borrow.Author.Tests.{le-ltb}
use lib.IntN.{ℤ, pos, negsuc, nat_abs}
use lib.Signed.{lt_z}
use Rattle.protocol.specs.Element.{modulo}
use Rattle.judge.specs.Signs.{folded}

module _ (m : ℕ) where
  pub folded-below : (x : ℤ) → lt_z x (pos 0) ≡ true → m + 1 ≡ nat_abs x → m ≡ folded x
  unfolding folded
  folded-below (pos n) t e = absurd (false≢true (sym (le-ltb n 0 (omega arith)) ∙ t))
  folded-below (negsuc n) t e = omega (arith, e)

  pub folded-above : (x : ℤ) → lt_z x (pos 0) ≡ false → m ≡ nat_abs x → m ≡ folded x
  unfolding folded
  folded-above (pos n) t e = e
  folded-above (negsuc n) t e = absurd (false≢true (sym t))

module _ (q : ℕ) where
  pub residue-below : (x : ℤ) → lt_z x (pos 0) ≡ true → q - 1 - folded x % q ≡ modulo q x
  unfolding folded modulo
  residue-below (pos n) t = absurd (false≢true (sym (le-ltb n 0 (omega arith)) ∙ t))
  residue-below (negsuc n) t = omega arith

  pub residue-above : (x : ℤ) → lt_z x (pos 0) ≡ false → folded x % q ≡ modulo q x
  unfolding folded modulo
  residue-above (pos n) t = refl
  residue-above (negsuc n) t = absurd (false≢true (sym t))
