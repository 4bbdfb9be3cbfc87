-- The worked example of PROTOCOL 12.1: its settings, key, message and challenge, and the transcript that they give; and the same with a second row of weights.
use mathlib.Core.List.{List, [], ◌∷◌, ◌++◌}
use Prim.Native.Nat.{ℕ, ◌+◌, ◌-◌}
use lib.ListN.{replicate}
use lib.IntN.{ℤ, pos, negsuc}
use Rattle.protocol.specs.declared.Settings.{Settings}
use Rattle.protocol.specs.Layout.{width, rows_width}

abbrev pub set_rows : ℕ → ℕ → ℕ → ℕ → ℕ → Settings
set_rows d l q b r = record { degree = d; depth = l; modulus = q; bound = b; rows = r }

-- one row
abbrev pub set : ℕ → ℕ → ℕ → ℕ → Settings
set d l q b = set_rows d l q b 1

abbrev pub S₁ : Settings
S₁ = set 2 1 17 1

abbrev pub key₁ : List ℕ
key₁ = 3 ∷ 5 ∷ 7 ∷ 2 ∷ []

abbrev pub message₁ : List ℤ
message₁ = pos 1 ∷ negsuc 0 ∷ pos 1 ∷ pos 0 ∷ []

abbrev pub commitment₁ : List ℕ
commitment₁ = 15 ∷ 4 ∷ []

-- an element of one row by value, x standing in all other places
abbrev pub one_row : ℕ → List ℕ → List ℕ
one_row x a = a ++ replicate (rows_width - 2) x

-- the round elements as the listing prints them
abbrev pub rounds₁ : List ℕ
rounds₁ = 4 ∷ 1 ∷ 6 ∷ 0 ∷ 12 ∷ 1 ∷ []

-- PROTOCOL 12.3: the tree over it
abbrev pub leaves₁ : List ℤ
leaves₁ = pos 2 ∷ negsuc 0 ∷ pos 1 ∷ pos 0 ∷ pos 0 ∷ negsuc 0 ∷ []

-- the same settings at depth 0
abbrev pub S₀ : Settings
S₀ = set 2 0 17 1

-- ---- two rows: behind the example's key a row of the weights 5 and 7

abbrev pub Sʷ : Settings
Sʷ = set_rows 2 1 17 1 2

abbrev pub keyʷ : List ℕ
keyʷ = key₁ ++ (5 ∷ 0 ∷ 7 ∷ 0 ∷ [])

-- an element of each of two rows by value, x standing in all other places
abbrev pub two_rows : ℕ → List ℕ → List ℕ → List ℕ
two_rows x a b = a ++ replicate (width - 2) x ++ b ++ replicate (rows_width - (width + 2)) x

-- 5·(1 − X) + 7·1 is 12 − 5·X
abbrev pub commitmentʷ : List ℕ
commitmentʷ = two_rows 0 (15 ∷ 4 ∷ []) (12 ∷ 12 ∷ [])

-- item by item, in each the row of the example first
abbrev pub roundsʷ : List ℕ
roundsʷ = 4 ∷ 1 ∷ 11 ∷ 6 ∷ 6 ∷ 0 ∷ 6 ∷ 5 ∷ 12 ∷ 1 ∷ 12 ∷ 0 ∷ []
