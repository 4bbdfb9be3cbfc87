-- The text of a line by its spot and its value.
--
--   field_most, spot_most, line_most   how long a number, a spot and a line are at most
--   line_least                         and a line at least
--   line-spot                          a line is its spot, its value and a line feed
--   value-below, value-from            a value below zero, and one from 0 on, by the test that the code makes
use mathlib.Core.Path.{◌≡◌, refl, sym, ap, ◌∙◌}
use mathlib.Core.Bool.{true, false, false≢true}
use mathlib.Core.List.{List, [], ◌∷◌, ◌++◌, append_assoc}
use Prim.Native.Nat.{ℕ, suc, ◌≤◌}
use native.Mathlib.Omega.{arith}
use borrow.Author.Tests.{le-ltb}
use lib.ListN.{length, length-append}
use lib.IntN.{ℤ, pos, negsuc, nat_abs}
use lib.Signed.{lt_z}
use mir.Syntax.{w64}
use mir.Val.{SFits, of_z, to_z}
use mir.Facts.{to_z-of_z}
use Rattle.text_format.specs.Text.{Line, space, line_feed, minus, digit_count, decimal, numeral, line_text}
use Rattle.text_format.proofs.NumeralLaws.{decimal-length}
use Rattle.text_parts.specs.declared.Cell.{Cell}
use Rattle.table_writer.specs.Put.{field_room, spot_room, line_room, field, spot_text, line_at}
use Rattle.table_writer.proofs.Digits.{digits_most, field-length}

pub field_most : (n behind : ℕ) → length (field n behind) ≤ field_room
field_most n behind = omega (arith, field-length n behind, digits_most n)

field_least : (n behind : ℕ) → 2 ≤ length (field n behind)
unfolding digit_count
field_least n behind = omega (arith, field-length n behind)

numeral_least : (v : ℤ) → 1 ≤ length (numeral v)
unfolding numeral digit_count
numeral_least (pos n) = omega (arith, decimal-length n)
numeral_least (negsuc n) = omega arith

pub spot_most : (part : ℕ) (c : Cell) → length (spot_text part c) ≤ spot_room
unfolding spot_text
spot_most part c =
    omega (
      arith,
      length-append (field part space) (field c.item space ++ field c.place space),
      length-append (field c.item space) (field c.place space),
      field_most part space,
      field_most c.item space,
      field_most c.place space,
    )

numeral_most : (v : ℤ) → length (numeral v) ≤ field_room
unfolding numeral
numeral_most (pos n) = omega (arith, decimal-length n, digits_most n)
numeral_most (negsuc n) = omega (arith, decimal-length (suc n), digits_most (suc n))

-- the value and what stands behind it
abbrev pub ending : ℤ → List ℕ
ending v = numeral v ++ (line_feed ∷ [])

-- a number with a space behind it, and what follows
spaced : (n : ℕ) (rest : List ℕ) → field n space ++ rest ≡ decimal n ++ (space ∷ rest)
unfolding field
spaced n rest = append_assoc (decimal n) (space ∷ []) rest

pub line-spot : (part : ℕ) (c : Cell) (v : ℤ) → spot_text part c ++ ending v ≡ line_text (line_at part c v)
unfolding spot_text line_text
line-spot part c v =
    append_assoc (field part space) (field c.item space ++ field c.place space) (ending v)
    ∙ spaced part _
    ∙ ap (λ t. decimal part ++ (space ∷ t))
    (append_assoc (field c.item space) (field c.place space) (ending v) ∙ spaced c.item _ ∙ ap (λ t. decimal c.item ++ (space ∷ t)) (spaced c.place (ending v)))

pub line_most : (part : ℕ) (c : Cell) (v : ℤ) → length (line_text (line_at part c v)) ≤ line_room
line_most part c v =
    omega (
      arith,
      ap length (line-spot part c v),
      length-append (spot_text part c) (ending v),
      length-append (numeral v) (line_feed ∷ []),
      spot_most part c,
      numeral_most v,
    )

-- four digits, three spaces and a line feed
pub line_least : (l : Line) → 8 ≤ length (line_text l)
unfolding spot_text
line_least l =
    let part = l.spot.part in
    let c : Cell = record { item = l.spot.item; place = l.spot.place } in
    omega (
      arith,
      ap length (line-spot part c l.value),
      length-append (spot_text part c) (ending l.value),
      length-append (field part space) (field c.item space ++ field c.place space),
      length-append (field c.item space) (field c.place space),
      length-append (numeral l.value) (line_feed ∷ []),
      field_least part space,
      field_least c.item space,
      field_least c.place space,
      numeral_least l.value,
    )

-- ---- the value of a signed word

below : (x : ℤ) → lt_z x (pos 0) ≡ true → (minus ∷ []) ++ field (nat_abs x) line_feed ≡ ending x
unfolding numeral field
below (pos n) t = absurd (false≢true (sym (le-ltb n 0 (omega arith)) ∙ t))
below (negsuc n) t = refl

from : (x : ℤ) → lt_z x (pos 0) ≡ false → field (nat_abs x) line_feed ≡ ending x
unfolding numeral field
from (pos n) t = refl
from (negsuc n) t = absurd (false≢true (sym t))

module _ (x : ℤ) (f : SFits w64 x) where
  pub value-below : lt_z (to_z w64 (of_z w64 x)) (pos 0) ≡ true → (minus ∷ []) ++ field (nat_abs x) line_feed ≡ ending x
  value-below t = below x (sym (ap (λ z. lt_z z (pos 0)) (to_z-of_z f)) ∙ t)

  pub value-from : lt_z (to_z w64 (of_z w64 x)) (pos 0) ≡ false → field (nat_abs x) line_feed ≡ ending x
  value-from t = from x (sym (ap (λ z. lt_z z (pos 0)) (to_z-of_z f)) ∙ t)
