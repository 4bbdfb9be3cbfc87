-- Tables that may be multiplied, element by element: what their rows and elements are to the functions that take them, and how large they are.
use mathlib.Core.Path.{◌≡◌, refl, sym, subst}
use mathlib.Core.Bool.{Bool, true, false}
use mathlib.Core.List.{List}
use Prim.Native.Nat.{ℕ, ◌+◌, ◌*◌, ◌-◌, ◌/◌, ◌%◌, ◌^◌, ◌<◌, ◌≤◌}
use native.Mathlib.Nat as Nat
use native.Mathlib.Numerals.{add-one}
use native.Mathlib.Omega.{arith}
use lib.IntN.{ℤ, pos, nat_abs}
use lib.ListN.{length, get_or, take, drop}
use Rattle.protocol.specs.Basic.{sum, tabulate}
use Rattle.protocol.specs.Element.{Element, width, plus, product, signed, signed_at}
use Rattle.protocol.specs.Layout.{rows_most}
use Rattle.protocol.specs.Opening.{inner}
use Rattle.protocol.proofs.Agreement.{Same, product_same}
use Rattle.protocol.proofs.Reading.{row_inside, cell-inside, tabulate_at}
use Rattle.residues.proofs.Parts.{tail_at}
use Rattle.half_sums.specs.Halves.{Small, size_of, message_sums, messages_of, MessageAt, MessageSum}
use Rattle.half_sums.proofs.Elements.{message-sum_small}
use Rattle.rows.specs.Rows.{woven}
use Rattle.strands.specs.Strands.{KeyRows}
use Rattle.product_sums.specs.Sums.{capacity, Stands, Given, Addable, Within, RowsGiven}

-- ---- two tables

-- what is known of them however they are multiplied
pub record Known (sums : Bool) (q d n : ℕ) (f : List ℤ) (g : List ℕ) : Type 0 where
  pub modulus : 0 < q
  pub modulus_most_holds : q ≤ 2 ^ 61
  pub degree : 0 < d
  pub degree_most : d ≤ width
  pub message_long : size_of sums d n ≤ length f
  pub key_long : size_of sums d n ≤ length g
  pub residues : (j : ℕ) → j < size_of sums d n → get_or g j 0 < q
  pub magnitude : ℕ
  pub few : n * (d * magnitude) ≤ capacity
  pub within : Within sums d n magnitude f

pub known : (sums : Bool) (q d n : ℕ) (f : List ℤ) (g : List ℕ) → Given sums q d n f g → Known sums q d n f g
unfolding Given size_of messages_of signed_at
known true q d n f g z = record {
  modulus = z.elements.modulus;
  modulus_most_holds = omega (arith, z.modulus_most_holds);
  degree = z.elements.degree;
  degree_most = z.elements.degree_most;
  message_long = omega (arith, z.elements.f_long, Nat.mul_assoc 2 n d);
  key_long = omega (arith, z.elements.g_long, Nat.mul_assoc 2 n d);
  residues = z.residues;
  magnitude = 2 ^ 16;
  few = omega (arith, z.few, Nat.mul_assoc n d (2 ^ 16));
  within = record { each = λ i j li lj. sums-within i j li lj };
}
  where
    sums-within : (i j : ℕ) → i < n → j < d → nat_abs (message_sums d n f i j) ≤ 2 ^ 16
    sums-within i j li lj =
        let M = message_sums d n f i in
        let is : MessageSum d n f i (tabulate d M) = tabulate_at d M (pos 0) in
        subst (λ y. nat_abs y ≤ 2 ^ 16) (is j lj) (message-sum_small d n i f z.small li (tabulate d M) is j lj)
known false q d n f g z = record {
  modulus = z.elements.modulus;
  modulus_most_holds = omega (arith, z.modulus_most_holds);
  degree = z.elements.degree;
  degree_most = z.elements.degree_most;
  message_long = z.elements.f_long;
  key_long = z.elements.g_long;
  residues = z.residues;
  magnitude = z.magnitude;
  few = omega (arith, z.few, Nat.mul_assoc n d z.magnitude);
  within = record { each = λ i j li lj. z.small (i * d + j) (cell-inside d n i j li lj) };
}

-- ---- all rows

module _ (sums : Bool) (q d n c stride : ℕ) (f : List ℤ) (g : List ℕ) (G : ℕ → List ℕ) (z : RowsGiven sums q d n c stride f g G) where
  pub row_known : (r : ℕ) → r < c → Known sums q d n f (G r)
  row_known r l = known sums q d n f (G r) (z.given r l)

  pub first_known : Known sums q d n f (G 0)
  first_known = row_known 0 z.some

  pub key_rows : KeyRows sums q d n c stride g G
  key_rows = record {
    some = z.some;
    most = z.most;
    long = z.long;
    alike = z.alike;
    given = λ r l. let k = row_known r l in record { modulus = k.modulus; degree = k.degree; degree_most = k.degree_most; long = k.key_long; residues = k.residues };
  }

-- ---- element i of the message, as the code reads it

module _ (sums : Bool) (q c d n m i : ℕ) (f : List ℤ) (w : Within sums d n m f) (inside : i < n) (l : List ℤ) (is : Same d (signed l) (messages_of sums d n f i)) where
  pub small_element : Small m d l
  unfolding signed
  small_element j h = subst (λ y. nat_abs y ≤ m) (sym (is j h)) (w.each i j inside h)

  pub element-added : (pd : 0 < d) (F G : ℕ → Element) (count : ℕ) (s t : List ℕ) → Stands q (d * c) (woven c (λ r. plus (F r) (product d (signed l) (G r)))) count s t
      → Stands q (d * c) (woven c (λ r. plus (F r) (product d (messages_of sums d n f i) (G r)))) count s t
  unfolding woven plus
  element-added pd F G count s t at = record { each = λ p h. rw (← product_same {d = d} pd is (λ j _ i. G (p % c) j) (p / c)) (at.each p h) }

pub message-part : (d n i : ℕ) (f : List ℤ) → Same d (signed (take (length f - i * d) (drop (i * d) f))) (messages_of false d n f i)
unfolding signed messages_of signed_at
message-part d n i f j l = tail_at (i * d) f j (pos 0)

pub message-sums : (d n i : ℕ) (f m : List ℤ) → MessageSum d n f i m → Same d (signed m) (messages_of true d n f i)
unfolding signed messages_of
message-sums d n i f m is j l = is j l

-- an element more
pub inner_more : (q c d w i : ℕ) (M : ℕ → Element) (K : ℕ → ℕ → Element) (s t : List ℕ) → Stands q (d * c) (woven c (λ r. plus (inner d i M (K r)) (product d (M i) (K r i)))) (i * w + w) s t
    → Stands q (d * c) (woven c (λ r. inner d (i + 1) M (K r))) ((i + 1) * w) s t
unfolding woven plus inner sum
inner_more q c d w i M K s t at = record { each = λ p l. rw (add-one i, Nat.suc-mul i w) (at.each p l) }

-- ---- as `sums` tells

pub message_at : (sums : Bool) → sums ≡ true → (q d n i : ℕ) (f : List ℤ) (g : List ℕ) → Given sums q d n f g → i < n → MessageAt d n i (i * d) (n * d + i * d) f
unfolding Given
message_at sums t q d n i f g z inside =
    let y = subst (λ b. Given b q d n f g) t z in
    record { long = omega (arith, y.elements.f_long, Nat.mul_assoc 2 n d); small = y.small; inside = inside; first = refl; second_at = refl }

pub part-inside : (sums : Bool) → sums ≡ false → (q d n i : ℕ) (f : List ℤ) (g : List ℕ) → Known sums q d n f g → i < n → i * d + d ≤ length f
unfolding size_of
part-inside sums t q d n i f g z inside = omega (arith, subst (λ b. size_of b d n ≤ length f) t z.message_long, row_inside d n i inside)

pub addable : (sums : Bool) (q c d n m s t : ℕ) (f l : List ℤ) (g : List ℕ) → Known sums q d n f g → 0 < c → c ≤ rows_most → d ≤ length l → Small m d l → d * c ≤ s → d * c ≤ t → Addable q c d m l s t
addable sums q c d n m s t f l g z some most long small ls lt = record {
  modulus = z.modulus;
  modulus_most_holds = z.modulus_most_holds;
  some = some;
  strands = most;
  degree = z.degree;
  degree_most = z.degree_most;
  long = long;
  small = small;
  lowers = ls;
  uppers = lt;
}
