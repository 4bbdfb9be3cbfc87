-- Sixteen elements of a message or of a key, or of the sums of their halves, as they are handed on to be transformed, and the batches of a message.
use mathlib.Core.Path.{◌≡◌, refl, sym, ap, ◌∙◌, subst}
use mathlib.Core.Bool.{Bool, true, false}
use mathlib.Core.List.{List, [], ◌∷◌}
use Prim.Native.Nat.{ℕ, zero, suc, ◌+◌, ◌*◌, ◌-◌, ◌^◌, ◌<◌, ◌≤◌}
use native.Mathlib.Nat as Nat
use native.Mathlib.Omega.{arith}
use lib.IntN.{ℤ, pos, nat_abs, ◌+ℤ◌, +ℤ_assoc, +ℤ_idr}
use lib.ListN.{length, get_or, take, drop}
use lib.Seq.{length-take-le}
use Rattle.algebra.specs.Ring as R
use Rattle.algebra.specs.Ring.{CommRing}
use Rattle.algebra.specs.Sum as Σ
use Rattle.algebra.specs.Residues.{res-zero}
use Rattle.algebra.specs.Integers.{ofℤ, ofℕ-zero}
use Rattle.algebra.specs.Transform.{value}
use Rattle.protocol.specs.Basic.{sum}
use Rattle.protocol.specs.Element.{Element, width, plus, product, signed, residue, signed_at, residue_at}
use Rattle.protocol.specs.Opening.{inner}
use Rattle.protocol.proofs.SumLaws.{sum-split}
use Rattle.protocol.proofs.Reading.{row_inside}
use Rattle.residues.proofs.Parts.{tail_at, tail-length}
use Rattle.powers.specs.Powers.{modulus, positive, K, res, seen}
use Rattle.transform.specs.Strands.{strands, value_at, Room, Filled, Values, MessagePlaced, ResiduesPlaced, Stands}
use Rattle.half_sums.specs.Halves.{MessageAt, MessageSum, KeyAt, KeySum, size_of, messages_of, keys_of}
use Rattle.half_sums.proofs.Elements.{message-sum_small, key-sum-below}
use Rattle.batches.specs.Batches.{Zero, Suits, most, MessageGiven, KeyGiven, Ready}

pub filled_none : (D : ℕ) (F : ℕ → Element) (x : List ℕ) → Room D x → Filled D 0 F x
filled_none D F x r = record { room = r; each = λ l k h m. absurd (omega arith) }

-- ---- element i of a message or of a key, which is to be strand l

module _ (D d n i l : ℕ) (degree : d ≡ 2 ^ D) (inside : i < n) (strand : l < strands) where
  -- it ends inside the table
  pub row : i * d + d ≤ n * d
  row = row_inside d n i inside

  abbrev part {ℓ} : {A : Type ℓ} → List A → List A
  part t = take (length t - i * d) (drop (i * d) t)

  module _ (f : List ℤ) (F : ℕ → Element) (x : List ℕ) (filled : Filled D l F x) where
    pub message-placed : MessageGiven false d n f → F l ≡ messages_of false d n f i → MessagePlaced D d l (part f) F x
    unfolding signed signed_at messages_of size_of most
    message-placed z is = record {
      degree = degree;
      inside = strand;
      long = omega (arith, row, z.long, tail-length (i * d) f);
      small = λ k h. subst (λ v. nat_abs v ≤ 2 ^ 16) (sym (tail_at (i * d) f k (pos 0))) (z.small (i * d + k) (omega (arith, row)));
      is = λ k _. tail_at (i * d) f k (pos 0) ∙ ap (λ e. e k) (sym is);
      before = filled;
    }

    pub message_at : MessageGiven true d n f → MessageAt d n i (i * d) (n * d + i * d) f
    unfolding size_of most
    message_at z = record { long = z.long; small = z.small; inside = inside; first = refl; second_at = refl }

    pub message-sum-placed : MessageGiven true d n f → F l ≡ messages_of true d n f i → (m : List ℤ) → MessageSum d n f i m → d ≤ length m → MessagePlaced D d l m F x
    unfolding signed messages_of size_of most
    message-sum-placed z is m sum long = record {
      degree = degree;
      inside = strand;
      long = long;
      small = message-sum_small d n i f z.small inside m sum;
      is = λ k h. sum k h ∙ ap (λ e. e k) (sym is);
      before = filled;
    }

  module _ (g : List ℕ) (G : ℕ → Element) (y : List ℕ) (filled : Filled D l G y) where
    pub key-placed : KeyGiven false d n g → G l ≡ keys_of false 12289 d n g i → ResiduesPlaced D d l (part g) G y
    unfolding residue residue_at keys_of size_of
    key-placed z is = record {
      degree = degree;
      inside = strand;
      long = omega (arith, row, z.long, tail-length (i * d) g);
      residues = λ k h. subst (λ v. v < 12289) (sym (tail_at (i * d) g k 0)) (z.residues (i * d + k) (omega (arith, row)));
      is = λ k _. ap pos (tail_at (i * d) g k 0) ∙ ap (λ e. e k) (sym is);
      before = filled;
    }

    pub key_at : KeyGiven true d n g → KeyAt 12289 d n i (i * d) (n * d + i * d) g
    unfolding size_of
    key_at z = record { long = z.long; residues = z.residues; inside = inside; first = refl; second_at = refl }

    pub key-sum-placed : G l ≡ keys_of true 12289 d n g i → (k : List ℕ) → KeySum 12289 d n g i k → d ≤ length k → ResiduesPlaced D d l k G y
    unfolding residue keys_of
    key-sum-placed is k sum long = record {
      degree = degree;
      inside = strand;
      long = long;
      residues = key-sum-below 12289 d n i (omega arith) g k sum;
      is = λ j h. ap pos (sum j h) ∙ ap (λ e. e j) (sym is);
      before = filled;
    }

-- ---- the sums, sixteen elements more at a time

-- a batch more of an inner product
inner-split : (d n m : ℕ) (F G : ℕ → Element) → plus (inner d n F G) (inner d m (λ l. F (n + l)) (λ l. G (n + l))) ≡ inner d (n + m) F G
unfolding plus inner
inner-split d n m F G i k = sym (sum-split n m (λ j. product d (F j) (G j) k)) i

pub batch_stands : (D d t : ℕ) (F G : ℕ → Element) (s : List ℕ) → d ≡ 2 ^ D
    → Stands D (plus (inner d (t * 16) F G) (inner (2 ^ D) 16 (λ l. F (t * 16 + l)) (λ l. G (t * 16 + l)))) (t + 1) s → Stands D (inner d ((t + 1) * 16) F G) (t + 1) s
batch_stands D d t F G s e = subst (λ H. Stands D H (t + 1) s)
    (ap (λ m. plus (inner d (t * 16) F G) (inner m 16 (λ l. F (t * 16 + l)) (λ l. G (t * 16 + l)))) (sym e) ∙ inner-split d (t * 16) 16 F G ∙ ap (λ n. inner d n F G) (omega arith))

-- ---- rooms and sums of zeros

zero-take : (n : ℕ) (l : List ℕ) → Zero l → Zero (take n l)
zero-take zero l z k = refl
zero-take (suc n) [] z k = refl
zero-take (suc n) (a ∷ l) z zero = z zero
zero-take (suc n) (a ∷ l) z (suc k) = zero-take n l (λ j. z (suc j)) k

pub zero_room : (D n : ℕ) (l : List ℕ) → n ≡ 2 ^ D * strands → n ≤ length l → Zero l → Room D (take n l)
zero_room D n l e m z = record { long = length-take-le n l m ∙ e; below = λ k. omega (arith, zero-take n l z k) }

pub zero-stands : (D n : ℕ) (l : List ℕ) → n ≡ 2 ^ D * strands → n ≤ length l → Zero l → Stands D (λ _. pos 0) 0 (take n l)
unfolding seen value_at value
zero-stands D n l e m z = record {
  long = length-take-le n l m ∙ e;
  most = λ k. omega (arith, zero-take n l z k);
  is = λ j _. sum-none strands _ (λ i _. seen_none (j * strands + i)) ∙ sym (value_none j);
}
  where
    sum-none : (n : ℕ) (f : ℕ → K.C) → ((i : ℕ) → i < n → f i ≡ K.0#) → Σ.sum K n f ≡ K.0#
    sum-none n f h = Σ.sum-ext K n h ∙ Σ.sum-zero K n

    nothing : (x : K.C) → K.mul (ofℤ K (pos 0)) x ≡ K.0#
    nothing x = ap (λ t. K.mul t x) (ofℕ-zero K) ∙ R.zero-mul K x

    seen_none : (k : ℕ) → seen (take n l) k ≡ K.0#
    seen_none k = ap res (zero-take n l z k) ∙ res-zero modulus positive

    value_none : (j : ℕ) → value_at D (λ _. pos 0) j ≡ K.0#
    value_none j = sum-none (2 ^ D) _ (λ _ _. nothing _)

-- ---- where the transform suits

pub suits-width : (q d n r : ℕ) → Suits q d n r → d ≤ width
suits-width q d n r suits = omega (arith, suits.degree, Nat.pow-le-pow_right {n = 2} (omega arith) suits.most)

pub sums-size : (b : Bool) → b ≡ true → (d n : ℕ) → size_of b d n ≡ 2 * (n * d)
unfolding size_of
sums-size b e d n = rw e

pub table-size : (b : Bool) → b ≡ false → (d n : ℕ) → size_of b d n ≡ n * d
unfolding size_of
table-size b e d n = rw e

pub least_size : (b : Bool) (d n : ℕ) → n * d ≤ size_of b d n
unfolding size_of
least_size true d n = omega arith
least_size false d n = omega arith
