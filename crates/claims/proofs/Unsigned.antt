-- Values as numbers from 0 to a limit: those that are, there and back.
use mathlib.Core.Path.{◌≡◌, refl, ap, ap₂}
use mathlib.Core.Bool.{true, and-eq-true_iff}
use mathlib.Core.List.{List, [], ◌∷◌, map}
use Prim.Native.Nat.{ℕ, ◌≤◌}
use native.Mathlib.Omega.{arith}
use borrow.Author.Tests.{leb-true}
use lib.Dec.{leb}
use lib.IntN.{ℤ, pos, negsuc}
use Rattle.protocol.specs.Basic.{all}
use Rattle.text_format.specs.Text.{unsigned}

module _ (most : ℕ) where
  pub unsigned_small : (n : ℕ) → n ≤ most → unsigned most (pos n) ≡ n
  unfolding unsigned
  unsigned_small n h = omega arith

  pub unsigned_back : (v : List ℕ) → all (λ x. leb x most) v ≡ true → map (unsigned most) (map pos v) ≡ v
  unfolding all
  unsigned_back [] h = refl
  unsigned_back (x ∷ v) h =
      let (here, more) = (and-eq-true_iff (leb x most) _).0 h in
      ap₂ (λ (y : ℕ) (l : List ℕ). y ∷ l) (unsigned_small x (leb-true x most here)) (unsigned_back v more)

  pub unsigned-pos : (z : ℤ) → unsigned most z ≤ most → pos (unsigned most z) ≡ z
  unfolding unsigned
  unsigned-pos (pos n) h = ap pos (omega arith)
  unsigned-pos (negsuc n) h = absurd (omega arith)

  pub unsigned-forth : (v : List ℤ) → all (λ x. leb x most) (map (unsigned most) v) ≡ true → map pos (map (unsigned most) v) ≡ v
  unfolding all
  unsigned-forth [] h = refl
  unsigned-forth (z ∷ v) h =
      let (here, more) = (and-eq-true_iff (leb (unsigned most z) most) _).0 h in
      ap₂ (λ (x : ℤ) (y : List ℤ). x ∷ y) (unsigned-pos z (leb-true (unsigned most z) most here)) (unsigned-forth v more)
