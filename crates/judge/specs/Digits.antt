-- How the judge multiplies a number by a residue: by digits of the number's own residue. The digits of 16 bits are small enough for sums of products; two of
-- them make one of 32 bits, and two of those a residue.
--
--   digit q base size z      the digit of z modulo q that has the weight `base` and is below `size`
--   digit_at q base size a   that digit of each coefficient of a, an element
--   part_at S base key w k   coefficient k of the sum of the products of the key and the digits of 32 bits of w, modulo q
--   Vector S key w           the settings are allowed, the key is one of residues, and w is a vector of its length, which the growth allows
use Rattle.std.specs.Prelude.{List, ◌≡◌, ℕ, ◌/◌, ◌%◌, ◌^◌, ◌≤◌, ℤ, pos, length}
use Rattle.protocol.specs.declared.Settings.{Settings}
use Rattle.protocol.specs.Element.{Element, modulo, signed_at, residue_at}
use Rattle.protocol.specs.Inputs.{Below}
use Rattle.protocol.specs.Opening.{inner}
use Rattle.protocol.specs.Settings.{settings_refusal, size, cells}

unfoldable pub digit : ℕ → ℕ → ℕ → ℤ → ℕ
digit q base size z = modulo q z / base % size

unfoldable pub digit_at : ℕ → ℕ → ℕ → Element → Element
digit_at q base size a k = pos (digit q base size (a k))

unfoldable pub part_at : Settings → ℕ → List ℕ → List ℤ → ℕ → ℕ
part_at S base key w k =
    modulo S.modulus (inner S.degree (size S) (λ i. digit_at S.modulus base (2 ^ 32) (signed_at S.degree w i)) (residue_at S.degree key) k)

pub record Vector (S : Settings) (key : List ℕ) (w : List ℤ) : Type 0 where
  pub allowed : settings_refusal S ≡ 0
  pub key_given : Below S.modulus (cells S) key
  pub long : length w ≡ cells S
  pub few : cells S ≤ 1024
