-- The table's rule, that its entry k is 9^k, and the roots at which the transform takes values. Rests on Transform of algebra.
use mathlib.Core.Path.{◌≡◌, refl, sym, ap, ◌∙◌}
use mathlib.Core.Bool.{true}
use Prim.Native.Nat.{ℕ, zero, suc, ◌+◌, ◌*◌, ◌-◌, ◌/◌, ◌%◌, ◌^◌, ◌<◌, ◌≤◌}
use native.Mathlib.Nat as Nat
use native.Mathlib.Omega.{arith}
use borrow.Author.Tests.{eqb-true}
use lib.Dec.{eqb}
use lib.ListN.{get_or}
use Rattle.algebra.specs.Ring.{pow, pow-add}
use Rattle.algebra.specs.Residues.{res-mul, res-mod, res_one, res-neg}
use Rattle.algebra.specs.Transform as T
use Rattle.algebra.specs.Transform.{leaf-zero, leaf_first, leaf_second, leaf-root}
use Rattle.protocol.specs.Basic.{every}
use Rattle.protocol.proofs.Tests.{every_at}
use Rattle.powers.specs.Powers.{modulus, powers, positive, K, res, psi, root}

-- ---- the rule: each entry is the one before it times 9

-- the one test of all entries
tested : every 255 (λ k. eqb (get_or powers (suc k) 0) (get_or powers k 0 * 9 % modulus)) ≡ true
unfolding powers every
tested = refl

pub powers-suc : (k : ℕ) → k < 255 → get_or powers (suc k) 0 ≡ get_or powers k 0 * 9 % modulus
powers-suc k h = eqb-true _ _ (every_at 255 (λ k. eqb (get_or powers (suc k) 0) (get_or powers k 0 * 9 % modulus)) tested k h)

pub power_below : (k : ℕ) → k < 256 → get_or powers k 0 < modulus
power_below zero h = unfold powers in omega arith
power_below (suc k) h = omega (arith, powers-suc k (omega arith), Nat.mod-lt (get_or powers k 0 * 9) positive)

-- ---- the entries in the ring of the residues

pub power_at : (k : ℕ) → k < 256 → res (get_or powers k 0) ≡ pow K psi k
unfolding powers pow
power_at zero h = res_one modulus positive
power_at (suc k) h =
    ap res (powers-suc k (omega arith)) ∙ res-mod modulus positive _ ∙ res-mul modulus positive _ 9 ∙ ap (λ t. K.mul t psi) (power_at k (omega arith))

-- 9^128 = −1
pub half-turn : pow K psi 128 ≡ K.neg K.1#
half-turn = sym (power_at 128 (omega arith)) ∙ ap res entry ∙ res-neg modulus positive 1 (omega arith) ∙ ap K.neg (res_one modulus positive)
  where
    entry : get_or powers 128 0 ≡ modulus - 1
    entry = unfold powers in refl

pub opposite : (e : ℕ) → pow K psi (e + 128) ≡ K.neg (pow K psi e)
opposite = T.opposite K psi 128 half-turn

pub inverse : (e : ℕ) → e ≤ 128 → K.mul (pow K psi (128 - e)) (pow K psi e) ≡ K.neg K.1#
inverse e h = sym (pow-add K psi (128 - e) e) ∙ ap (pow K psi) (omega arith) ∙ half-turn

-- ---- the roots of the places

pub root-zero : (e : ℕ) → root 0 e 0 ≡ pow K psi e
unfolding root
root-zero e = ap (pow K psi) (leaf-zero 128 e 0)

pub root_first : (D e j : ℕ) → j < 2 ^ D → root (suc D) e j ≡ root D (e / 2) j
unfolding root
root_first D e j l = ap (pow K psi) (leaf_first 128 D e j l)

pub root_second : (D e j : ℕ) → root (suc D) e (2 ^ D + j) ≡ root D (e / 2 + 128) j
unfolding root
root_second D e j = ap (pow K psi) (leaf_second 128 D e j)

-- two numbers that are the same at each of the degrees 2^0, …, 2^7
pub at_degrees : (f g : ℕ → ℕ) → every 8 (λ D. eqb (f D) (g D)) ≡ true → (D : ℕ) → D ≤ 7 → f D ≡ g D
at_degrees f g t D h = eqb-true _ _ (every_at 8 (λ D. eqb (f D) (g D)) t D (omega arith))

-- 128 is a multiple of 2^D
pub parts : (D : ℕ) → D ≤ 7 → 128 ≡ 128 / 2 ^ D * 2 ^ D
parts = at_degrees (λ _. 128) (λ D. 128 / 2 ^ D * 2 ^ D) (unfold every in refl)

pub root-power : (D e j : ℕ) → D ≤ 7 → (by : ℕ) → e ≡ by * 2 ^ D → j < 2 ^ D → pow K (root D e j) (2 ^ D) ≡ pow K psi e
unfolding root
root-power D e j h by is l = leaf-root K psi 128 half-turn D e j (128 / 2 ^ D) by (parts D h) is l

-- the block at 128 stands for an element modulo X^(2^D) + 1
pub root-turn : (D j : ℕ) → D ≤ 7 → j < 2 ^ D → pow K (root D 128 j) (2 ^ D) ≡ K.neg K.1#
root-turn D j h l = root-power D 128 j h (128 / 2 ^ D) (parts D h) l ∙ half-turn
