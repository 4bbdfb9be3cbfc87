-- Rows of a key that begin with the numbers of other tables: an inner product by the transform is the same with either. And a loop over rows that writes an element for each.
use mathlib.Core.Path.{◌≡◌, refl, sym, ap, ◌∙◌}
use mathlib.Core.Bool.{Bool, true, false}
use mathlib.Core.List.{List}
use Prim.Native.Nat.{ℕ, ◌+◌, ◌*◌, ◌-◌, ◌<◌, ◌≤◌}
use borrow.Rule.Slice.PartMut.{put_mid}
use native.Mathlib.Nat as Nat
use native.Mathlib.Omega.{arith}
use lib.IntN.{ℤ}
use lib.ListN.{length, get_or, take, drop}
use Rattle.protocol.specs.Element.{Element, width, modulo, reduced, padded}
use Rattle.protocol.proofs.Reading.{row_inside, tabulate_at, tabulate_ext}
use Rattle.residues.specs.Lists.{filled, spliced}
use Rattle.residues.proofs.Fill.{filled_none, filled_ext}
use Rattle.residues.proofs.Padding.{padded_at}
use Rattle.half_sums.specs.Halves.{size_of}
use Rattle.batches.specs.Batches.{Suits, most, MessageGiven, KeyGiven}
use Rattle.batches.proofs.Batching.{suits-width}
use Rattle.strands.proofs.Weaving.{keys-alike}
use Rattle.product_sums.specs.Sums.{Given}
use Rattle.plain_products.specs.Sums.{inner_element}
use Rattle.plain_products.specs.Rowwise.{element_places, row_places}
use Rattle.plain_products.proofs.Rowwise.{row_turn}
use Rattle.plain_products.proofs.Rows.{inner_same}

-- a row of the key as it is lent, which begins with the numbers of G
module _ (q d n : ℕ) (f : List ℤ) (g G : List ℕ) where
  pub element-alike : (sums : Bool) → 0 < d → ((p : ℕ) → p < size_of sums d n → get_or g p 0 ≡ get_or G p 0) → inner_element sums q d n f g ≡ inner_element sums q d n f G
  unfolding reduced
  element-alike sums pd same = tabulate_ext d (λ k l. ap (modulo q) (inner_same d n pd (λ i m j h. refl) (keys-alike q d n g G sums same) k))

-- ---- what the transform asks of them

pub message_given : (sums : Bool) (q d n : ℕ) (f : List ℤ) (g : List ℕ) → Given sums q d n f g → MessageGiven sums d n f
unfolding Given size_of most
message_given true q d n f g z = record { long = omega (arith, z.elements.f_long, Nat.mul_assoc 2 n d); small = z.small }
message_given false q d n f g z = record { long = z.elements.f_long; small = λ j l. omega (arith, z.small j l, z.magnitude_most) }

pub key_given : (sums : Bool) (q d n : ℕ) (f : List ℤ) (g : List ℕ) → Given sums q d n f g → q ≡ 12289 → KeyGiven sums d n g
unfolding Given size_of
key_given true q d n f g z e = record { long = omega (arith, z.elements.g_long, Nat.mul_assoc 2 n d); residues = λ j l. omega (arith, z.residues j l) }
key_given false q d n f g z e = record { long = z.elements.g_long; residues = λ j l. omega (arith, z.residues j l) }

-- a table of 256 elements of the largest degree has room for what is transformed
pub table-few : (q d n r : ℕ) → Suits q d n r → n * d ≤ 256 * width
table-few q d n r suits = Nat.mul-le-mul {n₂ = 256} {m₂ = width} suits.few (suits-width q d n r suits)

-- ---- one row more is written

padded-reduced : (q d : ℕ) (F : Element) (k : ℕ) → k < d → get_or (padded d (reduced q d F)) k 0 ≡ get_or (reduced q d F) k 0
unfolding reduced
padded-reduced q d F k h = padded_at d (λ j. modulo q (F j)) k h ∙ sym (tabulate_at d (λ j. modulo q (F j)) 0 k h)

pub row_stored : (q d : ℕ) (F : Element) (a part last : List ℕ) → a ≡ padded d (reduced q d F) → last ≡ spliced (λ k. get_or a k 0) 0 d part → last ≡ filled (element_places (reduced q d F)) d part
unfolding spliced filled
row_stored q d F a part last e is = is ∙ filled_ext _ _ d part (λ k h. ap (λ l. get_or l k 0) e ∙ padded-reduced q d F k h)

-- ---- all rows

-- what a loop over the rows has written after r of them, f r being the element of row r; it goes on with the key from place `from` on, and with l from `at` on
pub record Written (d rows stride : ℕ) (f : ℕ → List ℕ) (l : List ℕ) (r from at : ℕ) (s : List ℕ) : Type 0 where
  pub from_is : r < rows → from ≡ r * stride
  pub at-is : at ≡ r * d
  pub is : s ≡ filled (row_places d f) (r * d) l

module _ (d rows stride : ℕ) (f : ℕ → List ℕ) (l : List ℕ) where
  pub written_none : Written d rows stride f l 0 0 0 l
  written_none = record {
    from_is = λ _. sym (Nat.zero-mul stride);
    at-is = sym (Nat.zero-mul d);
    is = filled_none (row_places d f) l ∙ ap (λ n. filled (row_places d f) n l) (sym (Nat.zero-mul d));
  }

  module _ {r from at : ℕ} {s : List ℕ} (w : Written d rows stride f l r from at s) (h : r < rows) (room : rows * d ≤ length l) where
    pub table_room : at + d ≤ length l
    table_room = omega (arith, row_inside d rows r h, w.at-is)

    pub written_more : (next : ℕ) → (r + 1 < rows → next ≡ from + stride) → (last : List ℕ) → last ≡ filled (element_places (f r)) d (take (length s - at) (drop at s))
        → Written d rows stride f l (r + 1) next (at + d) (put_mid at (length s - at) s last)
    written_more next e last g = record {
      from_is = λ m. omega (arith, e m, w.from_is h, Nat.add-mul r 1 stride);
      at-is = omega (arith, w.at-is, Nat.add-mul r 1 d);
      is = ap (λ n. put_mid n (length s - n) s last) w.at-is
          ∙ row_turn d f r l s (omega (arith, row_inside d rows r h)) w.is last (g ∙ ap (λ n. filled (element_places (f r)) d (take (length s - n) (drop n s))) w.at-is);
    }
