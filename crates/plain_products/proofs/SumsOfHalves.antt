-- The sums of two tables' halves, element by element, and their products.
use mathlib.Core.List.{List}
use mathlib.Core.Path.{ap}
use Prim.Native.Nat.{ℕ, ◌+◌, ◌*◌, ◌^◌, ◌<◌, ◌≤◌}
use native.Mathlib.Nat as Nat
use native.Mathlib.Omega.{arith}
use lib.IntN.{ℤ, pos}
use lib.ListN.{length}
use Rattle.protocol.specs.Element.{plus, product, signed, residue}
use Rattle.protocol.specs.Opening.{inner}
use Rattle.half_sums.specs.Halves.{message_sums, key_sums, Halves, HalfSums}
use Rattle.half_sums.proofs.Elements.{sums_small, sums-below}
use Rattle.product_sums.specs.Sums.{Stands, Columned}
use Rattle.product_sums.proofs.Standing.{stands_more}

module _ (q d h i : ℕ) (f : List ℤ) (g : List ℕ) (z : Halves q d h f g) (inside : i < h) (m : List ℤ) (k : List ℕ) (is : HalfSums q d h f g i m k) where
  pub sums_columned : d ≤ length m → d ≤ length k → Columned q d (2 ^ 16) m k
  sums_columned lm lk = record {
    elements = record {
      modulus = z.elements.modulus;
      degree = z.elements.degree;
      degree_most = z.elements.degree_most;
      f_long = omega (arith, Nat.one-mul d);
      g_long = omega (arith, Nat.one-mul d);
    };
    small = sums_small q d h i f g z inside m k is;
    residues = sums-below q d h i f g z inside m k is;
  }

  pub sums_more : (s t : List ℕ) → Stands q d (plus (inner d i (message_sums d h f) (key_sums q d h g)) (product d (signed m) (residue k))) (i * (d * 2 ^ 16) + d * 2 ^ 16) s t
      → Stands q d (inner d (i + 1) (message_sums d h f) (key_sums q d h g)) ((i + 1) * (d * 2 ^ 16)) s t
  unfolding signed residue
  sums_more s t = stands_more q d (d * 2 ^ 16) z.elements.degree (message_sums d h f) (key_sums q d h g) i m k s t is.message (λ j l. ap pos (is.key j l))
