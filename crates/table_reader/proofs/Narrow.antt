-- Values as numbers of 32 bits.
--
--   narrow-fits       a value within the narrow limit has 32 bits
--   narrowed-..       what is kept of a value within the limit, and of one past it; as a word
--   tables-narrow     the message and the final element of a text are narrow, since the values of their lines are
--   below-either      whether a value is below a small number does not depend on the limit
use mathlib.Core.Path.{◌≡◌, refl, ap, ◌∙◌}
use mathlib.Core.Bool.{true, ◌&&◌}
use mathlib.Core.List.{List, [], ◌∷◌, map}
use Prim.Native.Nat.{ℕ, suc, ◌≤◌, ◌<◌, min}
use native.Mathlib.Omega.{arith}
use native.Mathlib.Decide.{dec_le}
use borrow.Author.Tests.{le-leb, lt-leb, leb-true, lt-ltb, ltb-true}
use lib.Dec.{ltb}
use lib.IntN.{ℤ, pos, negsuc, nat_abs}
use mir.Syntax.{w32}
use mir.Val.{SFits, to_z, of_z}
use mir.Facts.{to_z-of_z}
use Rattle.protocol.specs.Basic.{all, among, within, choose}
use Rattle.text_format.specs.Text.{narrow_limit, limit_of, lines_of, unsigned, column, tables_in}
use Rattle.protocol.proofs.Tests.{and_split, same_test}
use Rattle.text_format.proofs.TextLimits.{lines-read-limited, column-limited}
use Rattle.text_parts.specs.Parts.{tables_of}
use Rattle.table_reader.specs.Cut.{narrowed, narrow_tables}

pub narrow-fits : (z : ℤ) → nat_abs z ≤ narrow_limit → SFits w32 z
unfolding narrow_limit
narrow-fits (pos n) h = record { sfits = omega arith }
narrow-fits (negsuc n) h = record { sfits = omega arith }

pub narrowed_is : (z : ℤ) → nat_abs z ≤ narrow_limit → narrowed z ≡ z
unfolding narrowed within choose
narrowed_is z h = rw (le-leb (nat_abs z) narrow_limit h)

pub narrowed-past : (z : ℤ) → narrow_limit < nat_abs z → narrowed z ≡ pos 0
unfolding narrowed within choose
narrowed-past z h = rw (lt-leb (nat_abs z) narrow_limit h)

within-limit : (z : ℤ) → nat_abs (narrowed z) ≤ narrow_limit
within-limit z = elim (dec_le (nat_abs z) narrow_limit) [
  | yes h ↦ omega (arith, ap nat_abs (narrowed_is z h))
  | no h ↦ omega (arith, ap nat_abs (narrowed-past z (omega arith)))
]

pub narrowed_word : (z r : ℤ) → r ≡ narrowed z → to_z w32 (of_z w32 r) ≡ narrowed z
narrowed_word z r e = ap (λ x. to_z w32 (of_z w32 x)) e ∙ to_z-of_z (narrow-fits (narrowed z) (within-limit z))

narrow-list : (vs : List ℤ) → all (within narrow_limit) vs ≡ true → map narrowed vs ≡ vs
unfolding all within
narrow-list [] h = refl
narrow-list (v ∷ vs) h =
    let (here, more) = and_split {a = within narrow_limit v} {b = all (within narrow_limit) vs} h in
    λ j. narrowed_is v (leb-true (nat_abs v) narrow_limit here) j ∷ narrow-list vs more j

pub tables-narrow : (text : List ℕ) → narrow_tables (tables_in (lines_of text)) ≡ tables_in (lines_of text)
unfolding narrow_tables tables_in limit_of among choose
tables-narrow text =
    let ls = lines_of text in
    let t = tables_in ls in
    let message = narrow-list (column 2 ls) (column-limited 2 ls (lines-read-limited text)) in
    let last = narrow-list (column 6 ls) (column-limited 6 ls (lines-read-limited text)) in
    λ j. tables_of t.key (message j) t.commitment t.rounds t.challenges (last j) t.claims

below_one : (n most most' : ℕ) (z : ℤ) → n ≤ most → n ≤ most' → ltb (unsigned most z) n ≡ true → ltb (unsigned most' z) n ≡ true
unfolding unsigned
below_one n most most' (pos k) h h' t = lt-ltb (min k (suc most')) n (omega (arith, ltb-true (min k (suc most)) n t))
below_one n most most' (negsuc k) h h' t = absurd (omega (arith, ltb-true (suc most) n t))

pub below-either : (n most most' : ℕ) → n ≤ most → n ≤ most' → (vs : List ℤ)
    → all (λ x. ltb x n) (map (unsigned most) vs) ≡ all (λ x. ltb x n) (map (unsigned most') vs)
unfolding all
below-either n most most' h h' [] = refl
below-either n most most' h h' (z ∷ vs) =
    let one = same_test (below_one n most most' z h h') (below_one n most' most z h' h) in
    λ j. one j && below-either n most most' h h' vs j
