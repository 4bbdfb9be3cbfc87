-- PROTOCOL 1.2 and 1.3: elements, and how they are added, rotated, multiplied and reduced.
-- An element is a function from places to whole numbers, and only its places below d are read. A residue counts as the whole number that it is;
-- each definition works over whole numbers and reduces once, at its end.
--
--   Element                  d coefficients, that of X^0 first
--   modulo q z               z modulo q, from 0 to q − 1
--   around d a x             the coefficient of X^x, going round by X^d = −1
--   rotate d e a             X^e·a
--   product d a b            a·b
--   one, power d e           the elements 1 and X^e
--   plus a b, times z a      a + b, and z·a for a number z
--   signed l, residue l      the element whose coefficients are the list l, of whole numbers, of residues
--   signed_at d t i          element i of the flat table t of whole numbers
--   residue_at d t i         element i of the flat table t of residues
--   coefficients d a         the d coefficients of a
--   reduced q d a            the d coefficients of a, modulo q
--   width                    passed on from Layout
--   value_row C r            row r of what is passed by value for each row
--   zeros n, signed_zeros n  n zeros
--   padded, padded_signed    an element that is passed by value: its coefficients, then zeros
use Rattle.std.specs.Prelude.{List, ◌++◌, ℕ, zero, suc, ◌+◌, ◌*◌, ◌-◌, ◌/◌, ◌%◌, get_or, drop, replicate, ℤ, pos, negsuc, neg_ℤ, ◌+ℤ◌, ◌*ℤ◌}
use Rattle.protocol.specs.Basic.{sum, tabulate}
unfoldable pub use Rattle.protocol.specs.Layout.{width}

-- PROTOCOL 1.2: place k has the coefficient of X^k
abbrev pub Element : Type 0
Element = ℕ → ℤ

-- −(n + 1) is q − (1 + n mod q) modulo q
unfoldable pub modulo : ℕ → ℤ → ℕ
modulo q (pos n) = n % q
modulo q (negsuc n) = q - suc (n % q)

-- z with its sign changed n times
unfoldable pub flips : ℕ → ℤ → ℤ
flips zero z = z
flips (suc n) z = neg_ℤ (flips n z)

-- PROTOCOL 1.3: past place d − 1 the coefficients start again with the other sign
unfoldable pub around : ℕ → Element → ℕ → ℤ
around d a x = flips (x / d) (a (x % d))

-- PROTOCOL 1.3: place k gets what stands e places before it, 2d places being a whole turn
unfoldable pub rotate : ℕ → ℕ → Element → Element
rotate d e a k = around d a (k + (2 * d - e % (2 * d)))

-- the sum of a_i·(X^i·b) over i from 0 to d − 1
unfoldable pub product : ℕ → Element → Element → Element
product d a b k = sum d (λ i. a i *ℤ rotate d i b k)

unfoldable pub one : Element
one zero = pos 1
one (suc k) = pos 0

unfoldable pub power : ℕ → ℕ → Element
power d e = rotate d e one

unfoldable pub plus : Element → Element → Element
plus a b k = a k +ℤ b k

unfoldable pub times : ℤ → Element → Element
times z a k = z *ℤ a k

unfoldable pub signed : List ℤ → Element
signed l k = get_or l k (pos 0)

unfoldable pub residue : List ℕ → Element
residue l k = pos (get_or l k 0)

unfoldable pub signed_at : ℕ → List ℤ → ℕ → Element
signed_at d t i k = get_or t (i * d + k) (pos 0)

unfoldable pub residue_at : ℕ → List ℕ → ℕ → Element
residue_at d t i k = pos (get_or t (i * d + k) 0)

unfoldable pub coefficients : ℕ → Element → List ℤ
coefficients d a = tabulate d a

unfoldable pub reduced : ℕ → ℕ → Element → List ℕ
reduced q d a = tabulate d (λ k. modulo q (a k))

-- PROTOCOL 8.1: each row has the places of an element, and what stands behind them is not read
unfoldable pub value_row : List ℕ → ℕ → List ℕ
value_row C r = drop (r * width) C

unfoldable pub zeros : ℕ → List ℕ
zeros n = replicate n 0

unfoldable pub signed_zeros : ℕ → List ℤ
signed_zeros n = replicate n (pos 0)

-- PROTOCOL 8.1: behind its first d places an element that a call makes has zeros
unfoldable pub padded : ℕ → List ℕ → List ℕ
padded d l = l ++ zeros (width - d)

unfoldable pub padded_signed : ℕ → List ℤ → List ℤ
padded_signed d l = l ++ signed_zeros (width - d)
