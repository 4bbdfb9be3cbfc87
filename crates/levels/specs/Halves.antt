-- One level of the transform on a block of two halves of length h, pair by pair: number k of the lower half and number k of the upper.
--
--   Pairs P h i l m   m is l but for the first i pairs, where P relates the pair of l to the pair of m
--   SplitPair z       a pair of the way down: its sum and its difference once the upper number is multiplied by z
--   JoinedPair z      a pair of the way up: its sum, and z times its difference
--   Split z h l m     m is the block l, split; Joined z h l m: m is the block l, joined
use Rattle.std.specs.Prelude.{◌≡◌, ℕ, ◌+◌, ◌*◌, ◌<◌, ◌≤◌, List, length, slice_index}
use Rattle.powers.specs.Powers.{modulus, K, res}

pub record Pairs (P : ℕ → ℕ → ℕ → ℕ → Type 0) (h i : ℕ) (l m : List ℕ) : Type 0 where
  pub same : length m ≡ length l
  pub pair : (k : ℕ) → k < i → P (slice_index l k) (slice_index l (h + k)) (slice_index m k) (slice_index m (h + k))
  pub low_rest : (k : ℕ) → i ≤ k → k < h → slice_index m k ≡ slice_index l k
  pub high_rest : (k : ℕ) → i ≤ k → slice_index m (h + k) ≡ slice_index l (h + k)

pub record SplitPair (z x y u v : ℕ) : Type 0 where
  pub low_below : x < 4 * modulus → u < 4 * modulus
  pub high_below : x < 4 * modulus → v < 4 * modulus
  pub low : x < 4 * modulus → res u ≡ K.add (res x) (K.mul (res z) (res y))
  pub high : x < 4 * modulus → res v ≡ K.add (res x) (K.neg (K.mul (res z) (res y)))

pub record JoinedPair (z x y u v : ℕ) : Type 0 where
  pub low_below : x < 2 * modulus → y < 2 * modulus → u < 2 * modulus
  pub high_below : x < 2 * modulus → y < 2 * modulus → v < 2 * modulus
  pub low : x < 2 * modulus → y < 2 * modulus → res u ≡ K.add (res x) (res y)
  pub high : x < 2 * modulus → y < 2 * modulus → res v ≡ K.mul (res z) (K.add (res y) (K.neg (res x)))

abbrev pub Split : ℕ → ℕ → List ℕ → List ℕ → Type 0
Split z h = Pairs (SplitPair z) h h

abbrev pub Joined : ℕ → ℕ → List ℕ → List ℕ → Type 0
Joined z h = Pairs (JoinedPair z) h h
