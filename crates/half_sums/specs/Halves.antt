-- A table of whole numbers and one of residues, whose halves are added, element by element.
--
--   Elements q d n f g      tables of f and g numbers have n elements each
--   Small m n f             the first n numbers of f are at most m from 0
--   message_sums d h f i    element i of f0 + f1, the halves of f having h elements
--   key_sum_at q d h g i j  coefficient j of element i of g0 + g1, modulo q
--   key_sums q d h g i      that element
--   Halves q d h f g        two tables, whose halves have h elements and may be added before their inner product is taken
--   MessageAt d h i ..      element i of a message's first half, and that of its second half, begin at these places
--   MessageSum d h f i m    m begins with element i of these sums
--   KeyAt, KeySum           the same of a key
--   HalvesAt, HalfSums      the same of both tables
--   size_of sums d n        how many numbers a table of n elements has, or one whose halves have n elements, which are added
--   messages_of, keys_of    the elements that are multiplied: those of the tables or the sums of their halves
use Rattle.std.specs.Prelude.{Bool, true, false, List, ◌≡◌, ℕ, ◌+◌, ◌*◌, ◌^◌, ◌<◌, ◌≤◌, ℤ, pos, nat_abs, length, get_or}
use Rattle.protocol.specs.Element.{Element, width, modulo, plus, signed_at, residue_at}
use Rattle.protocol.specs.Settings.{modulus_most}
use Rattle.protocol.specs.Opening.{second}

pub record Elements (q d n f g : ℕ) : Type 0 where
  pub modulus : 0 < q
  pub degree : 0 < d
  pub degree_most : d ≤ width
  pub f_long : n * d ≤ f
  pub g_long : n * d ≤ g

abbrev pub Small : ℕ → ℕ → List ℤ → Type 0
Small m n f = (j : ℕ) → j < n → nat_abs (get_or f j (pos 0)) ≤ m

unfoldable pub message_sums : ℕ → ℕ → List ℤ → ℕ → Element
message_sums d h f i = plus (signed_at d f i) (second h (signed_at d f) i)

unfoldable pub key_sum_at : ℕ → ℕ → ℕ → List ℕ → ℕ → ℕ → ℕ
key_sum_at q d h g i j = modulo q (plus (residue_at d g i) (second h (residue_at d g) i) j)

abbrev pub key_sums : ℕ → ℕ → ℕ → List ℕ → ℕ → Element
key_sums q d h g i j = pos (key_sum_at q d h g i j)

pub record Halves (q d h : ℕ) (f : List ℤ) (g : List ℕ) : Type 0 where
  pub elements : Elements q d (2 * h) (length f) (length g)
  pub few : h * d ≤ 2 ^ 14
  pub small : Small (2 ^ 15) (2 * (h * d)) f
  pub residues : (j : ℕ) → j < 2 * (h * d) → get_or g j 0 < q
  pub modulus_most_holds : q ≤ modulus_most

pub record MessageAt (d h i at behind : ℕ) (f : List ℤ) : Type 0 where
  pub long : 2 * (h * d) ≤ length f
  pub small : Small (2 ^ 15) (2 * (h * d)) f
  pub inside : i < h
  pub first : at ≡ i * d
  pub second_at : behind ≡ h * d + i * d

abbrev pub MessageSum : ℕ → ℕ → List ℤ → ℕ → List ℤ → Type 0
MessageSum d h f i m = (j : ℕ) → j < d → get_or m j (pos 0) ≡ message_sums d h f i j

pub record KeyAt (q d h i at behind : ℕ) (g : List ℕ) : Type 0 where
  pub long : 2 * (h * d) ≤ length g
  pub residues : (j : ℕ) → j < 2 * (h * d) → get_or g j 0 < q
  pub inside : i < h
  pub first : at ≡ i * d
  pub second_at : behind ≡ h * d + i * d

abbrev pub KeySum : ℕ → ℕ → ℕ → List ℕ → ℕ → List ℕ → Type 0
KeySum q d h g i k = (j : ℕ) → j < d → get_or k j 0 ≡ key_sum_at q d h g i j

pub record HalvesAt (q d h i at behind : ℕ) (f : List ℤ) (g : List ℕ) : Type 0 where
  pub halves : Halves q d h f g
  pub inside : i < h
  pub first : at ≡ i * d
  pub second_at : behind ≡ h * d + i * d

pub record HalfSums (q d h : ℕ) (f : List ℤ) (g : List ℕ) (i : ℕ) (m : List ℤ) (k : List ℕ) : Type 0 where
  pub message : MessageSum d h f i m
  pub key : KeySum q d h g i k

unfoldable pub size_of : Bool → ℕ → ℕ → ℕ
size_of true d n = 2 * (n * d)
size_of false d n = n * d

unfoldable pub messages_of : Bool → ℕ → ℕ → List ℤ → ℕ → Element
messages_of true d n f = message_sums d n f
messages_of false d n f = signed_at d f

unfoldable pub keys_of : Bool → ℕ → ℕ → ℕ → List ℕ → ℕ → Element
keys_of true q d n g = key_sums q d n g
keys_of false q d n g = residue_at d g
