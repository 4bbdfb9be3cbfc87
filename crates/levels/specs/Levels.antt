-- What a transform does to the numbers of a block. A number counts as its residue modulo 12289, so that it may be larger than one.
--
--   Block D e        a block at e of 2^D places: it can be split all the way down
--   Sent D w e l m   m is the block l of w elements, transformed: every place has, of each element, the value at the place's root
--   Returned D e l m m is the block l of one element, transformed back: what had these values, 2^D times
--   Down D e l m     the way down from l to m: the length stays, and a block of small numbers is sent
--   Up D e l m       the way up
use Rattle.std.specs.Prelude.{◌≡◌, ℕ, ◌+◌, ◌*◌, ◌^◌, ◌<◌, ◌≤◌, List, length}
use Rattle.algebra.specs.Ring.{two, pow}
use Rattle.algebra.specs.Transform.{value}
use Rattle.powers.specs.Powers.{modulus, K, Below, seen, root}

pub record Block (D e : ℕ) : Type 0 where
  pub most : D ≤ 7
  pub inside : e < 256
  pub by : ℕ
  pub is : e ≡ by * 2 ^ D

pub record Sent (D w e : ℕ) (l m : List ℕ) : Type 0 where
  pub same : length m ≡ length l
  pub below : Below (4 * modulus) m
  pub is : (j i : ℕ) → j < 2 ^ D → i < w → seen m (j * w + i) ≡ value K (2 ^ D) (λ k. seen l (k * w + i)) (root D e j)

pub record Returned (D e : ℕ) (l m : List ℕ) : Type 0 where
  pub same : length m ≡ length l
  pub below : Below (2 * modulus) m
  pub is : (f : ℕ → K.C) → ((j : ℕ) → j < 2 ^ D → seen l j ≡ value K (2 ^ D) f (root D e j))
      → (k : ℕ) → k < 2 ^ D → seen m k ≡ K.mul (pow K (two K) D) (f k)

pub record Down (D e : ℕ) (l m : List ℕ) : Type 0 where
  pub same : length m ≡ length l
  pub sent : (w : ℕ) → Block D e → length l ≡ 2 ^ D * w → Below (4 * modulus) l → Sent D w e l m

pub record Up (D e : ℕ) (l m : List ℕ) : Type 0 where
  pub same : length m ≡ length l
  pub returned : Block D e → length l ≡ 2 ^ D → Below (2 * modulus) l → Returned D e l m
