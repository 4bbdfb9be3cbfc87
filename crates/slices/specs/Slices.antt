-- How the calls for C and Rust take and give what is passed by value elsewhere: in slices of exactly their lengths. An element of each row is rows·d numbers,
-- row by row, a round polynomial 3·rows·d numbers, its three items one after the other.
--
--   given d L q B rows   the settings with these numbers
--   capped x             x, or the largest number of 32 bits where x is larger: no number of 32 bits that a record holds may be as large
--   lent S fits N        the refusal of a call with the settings S that N refuses by itself, and that is lent slices beside, which have their lengths or
--                        not: 7 stands behind 3 to 6 and 16 and before all others
--   values_of S t        the elements by value of each row that the slice t stands for; its numbers are `together S C` of the elements C
--   polynomial_of S t    the round polynomial by value that the slice t stands for
--   laid S p             the numbers of the round polynomial p
--   placed d n t l       the elements l by value with the first d places of its first n rows from the flat table t
use Rattle.std.specs.Prelude.{Bool, ◌&&◌, List, [], ◌∷◌, ◌++◌, ℕ, ◌+◌, ◌*◌, ◌-◌, ◌^◌, ltb, get_or, drop}
use Rattle.protocol.specs.declared.Settings.{Settings}
use Rattle.protocol.specs.Basic.{choose, tabulate, flat, first, unless}
use Rattle.protocol.specs.Settings.{settings_refusal}
use Rattle.protocol.specs.Layout.{width, rows_most, item_cells}
use Rattle.protocol.specs.Rows.{at_rows, together}
use Rattle.protocol.specs.Session.{part}

abbrev pub given : ℕ → ℕ → ℕ → ℕ → ℕ → Settings
given d L q B rows = record { degree = d; depth = L; modulus = q; bound = B; rows = rows }

unfoldable pub capped : ℕ → ℕ
capped x = choose (ltb x (2 ^ 32)) x (2 ^ 32 - 1)

unfoldable pub lent : Settings → Bool → ℕ → ℕ
lent S fits N = first (settings_refusal S ∷ unless 7 fits ∷ N ∷ [])

unfoldable pub values_of : Settings → List ℕ → List ℕ
values_of S t = at_rows S (λ r. tabulate S.degree (λ k. get_or t (r * S.degree + k) 0))

unfoldable pub polynomial_of : Settings → List ℕ → List (List ℕ)
polynomial_of S t = values_of S t ∷ values_of S (drop (item_cells S) t) ∷ values_of S (drop (2 * item_cells S) t) ∷ []

unfoldable pub laid : Settings → List (List ℕ) → List ℕ
laid S p = together S (part p 0) ++ (together S (part p 1) ++ together S (part p 2))

unfoldable pub placed : ℕ → ℕ → List ℕ → List ℕ → List ℕ
placed d n t l = flat width rows_most (λ r k. choose (ltb r n && ltb k d) (get_or t (r * d + k) 0) (get_or l (r * width + k) 0))
