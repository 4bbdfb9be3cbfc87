-- One turn of the sums with a child's elements: an element is copied to the room x once, and added in two places, turned.
use mathlib.Core.Path.{◌≡◌, refl, sym, ap, ◌∙◌, subst}
use mathlib.Core.List.{List}
use Prim.Native.Nat.{ℕ, ◌+◌, ◌*◌, ◌-◌, ◌<◌, ◌≤◌}
use native.Mathlib.Nat as Nat
use native.Mathlib.Omega.{arith}
use borrow.Rule.Slice.PartMut.{put_mid}
use lib.ListN.{length, get_or, take, drop, length-drop}
use lib.IntN.{ℤ, pos, nat_abs, ◌+ℤ◌}
use Rattle.protocol.specs.Element.{rotate, plus, signed, signed_at}
use Rattle.protocol.specs.Layout.{width}
use Rattle.residues.specs.Lists.{filled, spliced_rows}
use Rattle.residues.proofs.Fill.{filled_ext}
use Rattle.residues.proofs.Parts.{tail_at, tail-length}
use Rattle.residues.proofs.Splice.{spliced-length, entry-before, entry-behind}
use Rattle.protocol.proofs.Reading.{row_inside}
use Rattle.protocol.proofs.Agreement.{rotate_same}
use Rattle.extraction.specs.Bounds.{Mirrorable, Summable}
use Rattle.extraction.specs.Steps.{Mirrored, rotated_added}
use Rattle.extraction.specs.Vectors.{turned_row, turned, Turnable}
use Rattle.extraction.proofs.Sums.{half_at, half-mirrored}
use Rattle.extraction.proofs.Splicing.{spliced-apart, rows_none, lent_at, rows_turn}

module _ (d n e f : ℕ) (l : List ℤ) (T : Turnable d n e f l) where
  abbrev low : ℕ → List ℤ → List ℤ
  low j m = spliced_rows (turned_row d e (n * d) l) (n * d) d j m

  abbrev high : ℕ → List ℤ → List ℤ
  high j m = spliced_rows (turned_row d f (n * d + n * d) l) (n * d + n * d) d j m

  -- what a sum asks
  abbrev Adding : ℕ → List ℤ → List ℤ → Type 0
  Adding g x target = (0 < d) × (d ≤ width) × (g < 2 * d) × (2 * d ≤ length x) × Mirrored d (drop d x) x × Summable d (drop d x) target

  pub turned_none : l ≡ turned d n e f 0 l
  turned_none = rows_none (turned_row d e (n * d) l) (n * d) d l ∙ rows_none (turned_row d f (n * d + n * d) l) (n * d + n * d) d (low 0 l)

  module _ (j : ℕ) (le : j ≤ n) where
    few : j * d ≤ n * d
    few = Nat.mul-le-mul_right d le

    low-length : length (low j l) ≡ length l
    low-length = spliced-length _ (n * d) (j * d) l (omega (arith, T.long)) (omega (arith, T.long, few))

    high-length : length (high j l) ≡ length l
    high-length = spliced-length _ (n * d + n * d) (j * d) l (omega (arith, T.long)) (omega (arith, T.long, few))

    swapped : (i : ℕ) → high i (low j l) ≡ low j (high i l)
    swapped i = spliced-apart _ _ (n * d) (j * d) (n * d + n * d) (i * d) l (omega (arith, few)) (omega (arith, T.long))

  pub turned-length : (j : ℕ) → j ≤ n → length (turned d n e f j l) ≡ length l
  turned-length j le =
      spliced-length _ (n * d + n * d) (j * d) (low j l) (omega (arith, low-length j le, T.long)) (omega (arith, low-length j le, T.long, few j le)) ∙ low-length j le

  module _ (i : ℕ) (lt : i < n) where
    pub in_row : i * d + d ≤ n * d
    in_row = row_inside d n i lt

    le-i : i ≤ n
    le-i = omega arith

    le_next : i + 1 ≤ n
    le_next = omega arith

    -- the room x, which holds element i, and an element at its place behind `to`
    module _ (x : List ℤ) (x-long : 2 * d ≤ length x) (mirrored : Mirrored d (drop d x) x) (reads : (k : ℕ) → k < d → get_or (drop d x) k (pos 0) ≡ get_or l (i * d + k) (pos 0))
        (target : List ℤ) (t-long : d ≤ length target) (to : ℕ) (behind : n * d ≤ to) (adds : (k : ℕ) → k < d → get_or target k (pos 0) ≡ get_or l (to + (i * d + k)) (pos 0))
        (g : ℕ) (small : g < 2 * d) where
      can-add : Adding g x target
      can-add = (
        T.some,
        T.small,
        small,
        x-long,
        mirrored,
        record {
          long = omega (arith, length-drop d x);
          long_to = t-long;
          bound = T.bound;
          bound_to = T.bound_to;
          within = λ k lk. subst (λ z. nat_abs z ≤ T.bound) (sym (reads k lk)) (T.within (i * d + k) (omega (arith, in_row)));
          within_to = λ k lk. subst (λ z. nat_abs z ≤ T.bound_to) (sym (adds k lk)) (T.within_to (to + (i * d + k)) (omega arith));
          room = T.room;
        },
      )

      added : rotated_added d g (drop d x) target ≡ filled (turned_row d g to l i) d target
      unfolding rotated_added plus signed signed_at
      added =
          filled_ext (λ k. signed target k +ℤ rotate d g (signed (drop d x)) k) (turned_row d g to l i) d target (λ k lk j. adds k lk j +ℤ rotate_same T.some g {b = signed_at d l i} reads k j)

    -- the list w before the turn
    module _ {w : List ℤ} (is : w ≡ turned d n e f i l) (same : length w ≡ length l) where
      abbrev source : List ℤ
      source = take (length w - i * d) (drop (i * d) w)

      source_long : d ≤ length source
      source_long = omega (arith, tail-length (i * d) w, in_row, T.long)

      source_at : (k : ℕ) → k < d → get_or source k (pos 0) ≡ get_or l (i * d + k) (pos 0)
      source_at k lk =
          tail_at (i * d) w k (pos 0)
          ∙ ap (λ s. get_or s (i * d + k) (pos 0)) is
          ∙ entry-before _ (n * d + n * d) (i * d) (low i l) (omega (arith, low-length i le-i, T.long)) (pos 0) (i * d + k) (omega (arith, in_row))
          ∙ entry-before _ (n * d) (i * d) l (omega (arith, T.long)) (pos 0) (i * d + k) (omega (arith, in_row))

      pub can_mirror : (x : List ℤ) → 2 * d ≤ length x → Mirrorable d source x
      can_mirror x room = record {
        long = source_long;
        long_to = room;
        within = λ k lk. omega (arith, ap nat_abs (source_at k lk), T.within (i * d + k) (omega (arith, in_row)), T.room);
      }

      -- the first sum
      abbrev below : List ℤ
      below = take (length w - (n * d + i * d)) (drop (n * d + i * d) w)

      below_long : d ≤ length below
      below_long = omega (arith, tail-length (n * d + i * d) w, in_row, T.long)

      is_low : w ≡ low i (high i l)
      is_low = is ∙ swapped i le-i i

      low_fits : n * d + i * d + d ≤ length (high i l)
      low_fits = omega (arith, high-length i le-i, in_row, T.long)

      below_reads : (k : ℕ) → k < d → get_or below k (pos 0) ≡ get_or l (n * d + (i * d + k)) (pos 0)
      below_reads k lk =
          lent_at (turned_row d e (n * d) l) (n * d) d (high i l) i (n * d + i * d) refl low_fits is_low k (pos 0)
          ∙ entry-before _ (n * d + n * d) (i * d) l (omega (arith, T.long)) (pos 0) (n * d + i * d + k) (omega (arith, in_row))
          ∙ ap (λ j. get_or l j (pos 0)) (let j : n * d + i * d + k ≡ n * d + (i * d + k) = omega arith in j)

      module _ {x : List ℤ} (x-long : 2 * d ≤ length x) (M : Mirrored d source x) where
        mirrored : Mirrored d (drop d x) x
        mirrored = half-mirrored d source x M

        reads : (k : ℕ) → k < d → get_or (drop d x) k (pos 0) ≡ get_or l (i * d + k) (pos 0)
        reads k lk = half_at d source x M k lk ∙ source_at k lk

        pub can_add_low : Adding e x below
        can_add_low = can-add x x-long mirrored reads below below_long (n * d) (Nat.le_refl (n * d)) below_reads e T.exponents.0

        module _ {p : List ℤ} (is-p : p ≡ rotated_added d e (drop d x) below) where
          abbrev w₁ : List ℤ
          w₁ = put_mid (n * d + i * d) (length w - (n * d + i * d)) w p

          is_w₁ : w₁ ≡ high i (low (i + 1) l)
          is_w₁ =
              rows_turn (turned_row d e (n * d) l) (n * d) d (high i l) i (n * d + i * d) refl low_fits is_low
              (is-p ∙ added x x-long mirrored reads below below_long (n * d) (Nat.le_refl (n * d)) below_reads e T.exponents.0)
              ∙ sym (swapped (i + 1) le_next i)

          pub after_low : length w₁ ≡ length l
          after_low =
              ap length is_w₁
              ∙ spliced-length _ (n * d + n * d) (i * d) (low (i + 1) l) (omega (arith, low-length (i + 1) le_next, T.long))
              (omega (arith, low-length (i + 1) le_next, T.long, few i le-i))
              ∙ low-length (i + 1) le_next

          -- the second
          abbrev above : List ℤ
          above = take (length w₁ - (n * d + (n * d + i * d))) (drop (n * d + (n * d + i * d)) w₁)

          above_long : d ≤ length above
          above_long = omega (arith, tail-length (n * d + (n * d + i * d)) w₁, after_low, in_row, T.long)

          high_fits : n * d + n * d + i * d + d ≤ length (low (i + 1) l)
          high_fits = omega (arith, low-length (i + 1) le_next, in_row, T.long)

          place : n * d + (n * d + i * d) ≡ n * d + n * d + i * d
          place = omega arith

          above_reads : (k : ℕ) → k < d → get_or above k (pos 0) ≡ get_or l (n * d + n * d + (i * d + k)) (pos 0)
          above_reads k lk =
              lent_at (turned_row d f (n * d + n * d) l) (n * d + n * d) d (low (i + 1) l) i (n * d + (n * d + i * d)) place high_fits is_w₁ k (pos 0)
              ∙ entry-behind _ (n * d) ((i + 1) * d) l (omega (arith, T.long)) (pos 0) (n * d + (n * d + i * d) + k) (omega (arith, few (i + 1) le_next))
              ∙ ap (λ j. get_or l j (pos 0)) (let j : n * d + (n * d + i * d) + k ≡ n * d + n * d + (i * d + k) = omega arith in j)

          pub can_add_high : Adding f x above
          can_add_high = can-add x x-long mirrored reads above above_long (n * d + n * d) (omega arith) above_reads f T.exponents.1

          pub after_high : {r : List ℤ} → r ≡ rotated_added d f (drop d x) above →
              put_mid (n * d + (n * d + i * d)) (length w₁ - (n * d + (n * d + i * d))) w₁ r ≡ turned d n e f (i + 1) l
          after_high is-r =
              rows_turn (turned_row d f (n * d + n * d) l) (n * d + n * d) d (low (i + 1) l) i (n * d + (n * d + i * d)) place high_fits is_w₁
              (is-r ∙ added x x-long mirrored reads above above_long (n * d + n * d) (omega arith) above_reads f T.exponents.1)
