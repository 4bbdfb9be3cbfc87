use mathlib.Core.Path.{◌≡◌, sym, subst}
use mathlib.Core.Bool.{Bool, true, false}
use mathlib.Core.List.{List}
use Prim.Native.Nat.{ℕ, ◌*◌, ◌^◌, ◌<◌, ◌≤◌}
use native.Mathlib.Nat as Nat
use native.Mathlib.Omega.{arith}
use lib.IntN.{ℤ}
use lib.ListN.{length}
use Rattle.protocol.specs.Element.{signed_at, residue_at}
use Rattle.protocol.specs.Opening.{inner}
use Rattle.half_sums.specs.Halves.{size_of, message_sums, key_sums, messages_of, keys_of}
use Rattle.product_sums.specs.Sums.{Stands, Summable, Given, Zero}
use Rattle.plain_products.specs.Sums.{Summed}
use Rattle.product_sums.proofs.Standing.{stands-zero}
use Rattle.plain_products.proofs.columnwise.add_products.Goals as goal

-- what the sums become, at every degree that is 4
abbrev Become : Bool → ℕ → ℕ → List ℤ → List ℕ → List ℕ → List ℕ → List ℕ → ℕ → Type 0
Become sums q n f g s t s' d = Given sums q d n f g → Zero s → Zero t → Summed q d (inner d n (messages_of sums d n f) (keys_of sums q d n g)) s' t

at_four : (sums b : Bool) → sums ≡ b → (q n : ℕ) (f : List ℤ) (g s t s' : List ℕ) (d : ℕ) → d ≡ 4 → Become b q n f g s t s' 4 → Become sums q n f g s t s' d
at_four sums b e q n f g s t s' d is y = subst (λ x. Become x q n f g s t s' d) (sym e) (subst (Become b q n f g s t s') (sym is) y)

size_true : (b : Bool) → b ≡ true → (d n l : ℕ) → size_of b d n ≤ l → 2 * (n * d) ≤ l
unfolding size_of
size_true b e d n l h = subst (λ b. size_of b d n ≤ l) e h

size-false : (b : Bool) → b ≡ false → (d n l : ℕ) → size_of b d n ≤ l → n * d ≤ l
unfolding size_of
size-false b e d n l h = subst (λ b. size_of b d n ≤ l) e h

module _ (q n : ℕ) (f : List ℤ) (g s t s' : List ℕ) (few : q < 2 ^ 32) where
  sums_become : ((u : List ℕ) → Given true q 4 n f g × (q < 2 ^ 32) × Stands q 4 (inner 4 0 (message_sums 4 n f) (key_sums q 4 n g)) 0 s u
      → Stands q 4 (inner 4 n (message_sums 4 n f) (key_sums q 4 n g)) (n * (4 * 2 ^ 16)) s' u) → Become true q n f g s t s' 4
  unfolding Given messages_of keys_of
  sums_become e z zs zt = record { count = n * (4 * 2 ^ 16); few = omega (arith, z.few); stands = e t (z, few, stands-zero q 4 z.elements.modulus _ _ s t zs zt) }

  tables_become : ((q : ℕ) (u : List ℕ) (z : Summable q 4 n f g) → (q < 2 ^ 32) × Stands q 4 (inner 4 0 (signed_at 4 f) (residue_at 4 g)) 0 s u
      → Stands q 4 (inner 4 n (signed_at 4 f) (residue_at 4 g)) (n * (4 * z.magnitude)) s' u) → Become false q n f g s t s' 4
  unfolding Given messages_of keys_of
  tables_become e z zs zt =
      record { count = n * (4 * z.magnitude); few = omega (arith, z.few, Nat.mul_assoc n 4 z.magnitude); stands = e q t z (few, stands-zero q 4 z.elements.modulus _ _ s t zs zt) }

pub add_sums-requires : goal.add_sums-requires
add_sums-requires c =
    let a = c.args in
    let t = c.if-sums.true in (
      record {
        modulus = c.requires.0;
        degree = omega arith;
        degree_most = omega arith;
        f_long = omega (arith, size_true a.sums t 4 a.n (length a.f.now) c.requires.1);
        g_long = omega (arith, size_true a.sums t 4 a.n (length a.g.now) c.requires.2);
      },
      c.requires.5,
      c.requires.3,
      c.requires.4,
    )

pub returns-then-sums : goal.returns-then-sums
unfolding Given
returns-then-sums c = λ d t z.
    let a = c.args in
    at_four a.sums true c.if-sums.true a.q a.n a.f.now a.g.now a.s.now t _ d z.0
    (sums_become a.q a.n a.f.now a.g.now a.s.now t _ z.1 c.add_sums.ensures)
    z.2 z.3 z.4

pub add_elements-requires : goal.add_elements-requires
add_elements-requires c =
    let a = c.args in
    let t = c.if-sums.false in
    (size-false a.sums t 4 a.n (length a.f.now) c.requires.1, size-false a.sums t 4 a.n (length a.g.now) c.requires.2, c.requires.5)

pub returns : goal.returns
returns c = λ d t z.
    let a = c.args in
    at_four a.sums false c.if-sums.false a.q a.n a.f.now a.g.now a.s.now t _ d z.0
    (tables_become a.q a.n a.f.now a.g.now a.s.now t _ z.1 c.add_elements.ensures)
    z.2 z.3 z.4
