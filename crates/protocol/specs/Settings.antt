-- PROTOCOL 1.1: which settings are allowed; PROTOCOL 7.1 and 7.3: the tests that several calls share.
--
--   transform_modulus                   12289: the modulus at which the largest degree is allowed
--   modulus_most                        the largest modulus
--   degree_allowed S .. rows_allowed S  is d, L, q, B, the number of rows allowed
--   settings_refusal S                  refusals 3 to 6, and 16
--   size S, cells S                     passed on from Layout
--   half S                              the inverse of 2 modulo q
--   has_length n t                       has the table t exactly n entries (refusal 7)
--   all_below S t, residue_element S a  are the numbers of a table, of an element by value, residues: below q (refusal 8)
--   residue_rows S C                    are those of an element of each row by value
--   all_within b t                      are the numbers of a table from −b to b (refusal 9)
--   exponent S e, exponents S t         is e, is every number of a table, an exponent (refusal 10)
use Rattle.std.specs.Prelude.{Bool, ◌&&◌, ◌||◌, List, [], ◌∷◌, ℕ, ◌+◌, ◌/◌, ◌%◌, leb, ltb, eqb, length, get_or, ℤ}
use Rattle.protocol.specs.declared.Settings.{Settings}
use Rattle.protocol.specs.Basic.{every, all, among, within, first, unless}
use Rattle.protocol.specs.Layout.{exponent_count, rows_most}
use Rattle.protocol.specs.Element.{value_row}
unfoldable pub use Rattle.protocol.specs.Layout.{size, cells}

-- PROTOCOL 1.1: 48·2^8 + 1, a prime
abbrev pub transform_modulus : ℕ
transform_modulus = 12_289

-- PROTOCOL 1.1: the powers of two from 2^1 to 2^6; 2^7 with the modulus 12289 alone
unfoldable pub degree_allowed : Settings → Bool
degree_allowed S = among S.degree (2 ∷ 4 ∷ 8 ∷ 16 ∷ 32 ∷ 64 ∷ []) || (eqb S.degree 128 && eqb S.modulus transform_modulus)

-- PROTOCOL 1.1: a table has at most 256 elements
unfoldable pub depth_allowed : Settings → Bool
depth_allowed S = leb S.depth 8

-- PROTOCOL 1.1: 2^61 − 1, so that eight times a residue has 64 bits
abbrev pub modulus_most : ℕ
modulus_most = 2_305_843_009_213_693_951

-- PROTOCOL 1.1: odd, so that 2 has an inverse
unfoldable pub modulus_allowed : Settings → Bool
modulus_allowed S = eqb (S.modulus % 2) 1 && leb 3 S.modulus && leb S.modulus modulus_most

-- PROTOCOL 1.1: not 0, and below 2^7
unfoldable pub bound_allowed : Settings → Bool
bound_allowed S = leb 1 S.bound && leb S.bound 127

-- PROTOCOL 1.1
unfoldable pub rows_allowed : Settings → Bool
rows_allowed S = leb 1 S.rows && leb S.rows rows_most

unfoldable pub settings_refusal : Settings → ℕ
settings_refusal S =
    first
    (unless 3 (degree_allowed S)
    ∷ unless 4 (depth_allowed S)
    ∷ unless 5 (modulus_allowed S)
    ∷ unless 6 (bound_allowed S)
    ∷ unless 16 (rows_allowed S)
    ∷ [])

-- PROTOCOL 1.1: twice this is q + 1
unfoldable pub half : Settings → ℕ
half S = (S.modulus + 1) / 2

-- PROTOCOL 7.1, refusal 7
unfoldable pub has_length {ℓ} : {A : Type ℓ} → ℕ → List A → Bool
has_length n t = eqb (length t) n

-- PROTOCOL 7.1, refusal 8
unfoldable pub all_below : Settings → List ℕ → Bool
all_below S t = all (λ x. ltb x S.modulus) t

unfoldable pub residue_element : Settings → List ℕ → Bool
residue_element S a = every S.degree (λ k. ltb (get_or a k 0) S.modulus)

-- places past the rows are not looked at
unfoldable pub residue_rows : Settings → List ℕ → Bool
residue_rows S C = every S.rows (λ r. residue_element S (value_row C r))

-- PROTOCOL 7.1, refusal 9: b is B before any fold, and larger later
unfoldable pub all_within : ℕ → List ℤ → Bool
all_within b t = all (within b) t

-- PROTOCOL 1.5, and 7.1, refusal 10
unfoldable pub exponent : Settings → ℕ → Bool
exponent S e = ltb e (exponent_count S)

unfoldable pub exponents : Settings → List ℕ → Bool
exponents S t = all (exponent S) t
