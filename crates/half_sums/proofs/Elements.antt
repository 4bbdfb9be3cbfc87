-- An element of the sums of two tables' halves: as the code works it out, and how large it is.
use mathlib.Core.Path.{◌≡◌, sym, ap, ◌∙◌, subst}
use mathlib.Core.List.{List}
use Prim.Native.Nat.{ℕ, ◌+◌, ◌*◌, ◌%◌, ◌^◌, ◌<◌, ◌≤◌}
use native.Mathlib.Nat as Nat
use native.Mathlib.Omega.{arith}
use lib.IntN.{ℤ, pos, nat_abs, ◌+ℤ◌}
use lib.ListN.{length, get_or}
use Rattle.algebra.specs.Magnitude.{nat_abs-add}
use Rattle.protocol.specs.Basic.{Provided}
use Rattle.protocol.specs.Element.{modulo, plus, signed_at, residue_at}
use Rattle.protocol.specs.Opening.{second}
use Rattle.protocol.proofs.Modulo.{modulo-lt}
use Rattle.protocol.proofs.Reading.{cell-inside, row_inside}
use Rattle.residues.specs.Lists.{filled}
use Rattle.residues.specs.Residues.{Residues}
use Rattle.residues.proofs.Fill.{filled_at}
use Rattle.residues.proofs.Parts.{tail_at, tail-length}
use Rattle.half_sums.specs.Room.{Room, Long, part}
use Rattle.half_sums.specs.Halves.{Small, message_sums, key_sum_at, MessageAt, MessageSum, KeyAt, KeySum, Halves, HalvesAt, HalfSums}

-- ---- as the code works it out

-- the element that begins at `at`, and that behind it, of halves of h elements
module _ (d h i at behind : ℕ) (inside : i < h) (first : at ≡ i * d) (second_at : behind ≡ h * d + i * d) where
  row : i * d + d ≤ h * d
  row = row_inside d h i inside

  pub first_inside : at + d ≤ 2 * (h * d)
  first_inside = omega (arith, row, first)

  pub second_inside : behind + d ≤ 2 * (h * d)
  second_inside = omega (arith, row, second_at)

  long {ℓ} : {A : Type ℓ} (l : List A) (n : ℕ) → 2 * (h * d) ≤ length l → d ≤ n → Long d (length (part at l)) (length (part behind l)) n
  long l n all room = record {
    first-long = omega (arith, tail-length at l, first_inside);
    second_long = omega (arith, tail-length behind l, second_inside);
    room = room;
  }

  one : (j : ℕ) → at + j ≡ i * d + j
  one j = omega (arith, first)

  two : (j : ℕ) → behind + j ≡ (h + i) * d + j
  two j = omega (arith, second_at, Nat.add-mul h i d)

module _ (d h i at behind : ℕ) (f : List ℤ) (z : MessageAt d h i at behind f) where
  room : (s : ℕ) → s + d ≤ 2 * (h * d) → Room d (part s f)
  room s l = record { each = λ j m. subst (λ x. nat_abs x < 2 ^ 30) (sym (tail_at s f j (pos 0))) (omega (arith, z.small (s + j) (omega arith))) }

  pub message-inside : (at ≤ length f) × (behind ≤ length f)
  message-inside = (
    omega (arith, z.long, first_inside d h i at behind z.inside z.first z.second_at),
    omega
        (arith, z.long, second_inside d h i at behind z.inside z.first z.second_at),
  )

  pub message-sum_is : (m m' : List ℤ) → d ≤ length m
      → Provided (Long d (length (part at f)) (length (part behind f)) (length m))
      (Provided (Room d (part at f) × Room d (part behind f)) (m' ≡ filled (λ p. get_or (part at f) p (pos 0) +ℤ get_or (part behind f) p (pos 0)) d m)) → MessageSum d h f i m'
  unfolding message_sums plus second signed_at
  message-sum_is m m' lm ms j l =
      let i1 = first_inside d h i at behind z.inside z.first z.second_at in
      let i2 = second_inside d h i at behind z.inside z.first z.second_at in
      ap (λ x. get_or x j (pos 0)) (ms (long d h i at behind z.inside z.first z.second_at f (length m) z.long lm) (room at i1, room behind i2))
      ∙ filled_at _ d m (pos 0) j l
      ∙ λ t. (tail_at at f j (pos 0) ∙ ap (λ n. get_or f n (pos 0)) (one d h i at behind z.inside z.first z.second_at j)) t
      +ℤ (tail_at behind f j (pos 0) ∙ ap (λ n. get_or f n (pos 0)) (two d h i at behind z.inside z.first z.second_at j)) t

module _ (q d h i at behind : ℕ) (g : List ℕ) (z : KeyAt q d h i at behind g) where
  residues : (s : ℕ) → s + d ≤ 2 * (h * d) → d ≤ length (part s g) → Residues q d 0 (part s g)
  residues s l long = record { long = omega arith; each = λ j m. subst (λ x. x < q) (sym (tail_at s g (0 + j) 0)) (z.residues (s + (0 + j)) (omega arith)) }

  pub key-inside : (at ≤ length g) × (behind ≤ length g)
  key-inside = (omega (arith, z.long, first_inside d h i at behind z.inside z.first z.second_at), omega (arith, z.long, second_inside d h i at behind z.inside z.first z.second_at))

  pub key-sum_is : (k k' : List ℕ) → d ≤ length k
      → Provided (Long d (length (part at g)) (length (part behind g)) (length k))
      (Provided (Residues q d 0 (part at g) × Residues q d 0 (part behind g)) (k' ≡ filled (λ p. (get_or (part at g) p 0 + get_or (part behind g) p 0) % q) d k)) → KeySum q d h g i k'
  unfolding key_sum_at plus second residue_at modulo
  key-sum_is k k' lk ks j l =
      let lg = long d h i at behind z.inside z.first z.second_at g (length k) z.long lk in
      let i1 = first_inside d h i at behind z.inside z.first z.second_at in
      let i2 = second_inside d h i at behind z.inside z.first z.second_at in
      ap (λ x. get_or x j 0) (ks lg (residues at i1 lg.first-long, residues behind i2 lg.second_long))
      ∙ filled_at _ d k 0 j l
      ∙ λ t. ((tail_at at g j 0 ∙ ap (λ n. get_or g n 0) (one d h i at behind z.inside z.first z.second_at j)) t
      + (tail_at behind g j 0 ∙ ap (λ n. get_or g n 0) (two d h i at behind z.inside z.first z.second_at j)) t) % q

module _ (q d h i at behind : ℕ) (f : List ℤ) (g : List ℕ) (z : HalvesAt q d h i at behind f g) where
  pub message_at : MessageAt d h i at behind f
  message_at = record {
    long = omega (arith, z.halves.elements.f_long, Nat.mul_assoc 2 h d);
    small = z.halves.small;
    inside = z.inside;
    first = z.first;
    second_at = z.second_at;
  }

  pub key_at : KeyAt q d h i at behind g
  key_at = record {
    long = omega (arith, z.halves.elements.g_long, Nat.mul_assoc 2 h d);
    residues = z.halves.residues;
    inside = z.inside;
    first = z.first;
    second_at = z.second_at;
  }

-- ---- how large its numbers are

pub message-sum_small : (d h i : ℕ) (f : List ℤ) → Small (2 ^ 15) (2 * (h * d)) f → i < h → (m : List ℤ) → MessageSum d h f i m → Small (2 ^ 16) d m
unfolding message_sums plus second signed_at
message-sum_small d h i f small inside m is j l = subst (λ x. nat_abs x ≤ 2 ^ 16) (sym (is j l))
    (omega (
      arith,
      nat_abs-add (get_or f (i * d + j) (pos 0)) (get_or f ((h + i) * d + j) (pos 0)),
      small (i * d + j) (omega (arith, cell-inside d h i j inside l)),
      small ((h + i) * d + j) (omega (arith, cell-inside d h i j inside l, Nat.add-mul h i d)),
    ))

pub key-sum-below : (q d h i : ℕ) → 0 < q → (g k : List ℕ) → KeySum q d h g i k → (j : ℕ) → j < d → get_or k j 0 < q
unfolding key_sum_at
key-sum-below q d h i p g k is j l = omega (arith, is j l, modulo-lt q p (plus (residue_at d g i) (second h (residue_at d g) i) j))

module _ (q d h i : ℕ) (f : List ℤ) (g : List ℕ) (z : Halves q d h f g) (inside : i < h) (m : List ℤ) (k : List ℕ) (is : HalfSums q d h f g i m k) where
  pub sums_small : Small (2 ^ 16) d m
  sums_small = message-sum_small d h i f z.small inside m is.message

  pub sums-below : (j : ℕ) → j < d → get_or k j 0 < q
  sums-below = key-sum-below q d h i z.elements.modulus g k is.key
