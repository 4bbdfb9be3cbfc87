-- Numbers of 64 bits that are whole numbers modulo 2^64: sums, differences and products of them.
use Rattle.std.proofs.Common.{◌≡◌, ℕ, zero, suc, ◌+◌, ◌-◌, ◌*◌, ◌%◌, ◌^◌, ◌<◌, ℤ, pos, negsuc, ◌+ℤ◌, ◌*ℤ◌, neg_ℤ, sym, refl, ap, ◌∙◌, arith, to_z-of_z, w32, w64, SFits, to_z, of_z, le-ltb}
use native.Mathlib.Nat as Nat
use lib.IntN.{+ℤ_assoc, +ℤ_invr, +ℤ_idr, *ℤ_comm, *ℤ-zero, *ℤ-negsuc}
use lib.Signed.{mag}
use Rattle.algebra.specs.Integers.{*ℤ_+ℤ}
use Rattle.protocol.specs.Element.{modulo}
use Rattle.protocol.proofs.Modulo.{modulo_add, modulo_again}

abbrev pub word : ℤ → ℕ
word = modulo (2 ^ 64)

undo : (a b : ℤ) → (a +ℤ b) +ℤ neg_ℤ b ≡ a
undo a b = +ℤ_assoc a b (neg_ℤ b) ∙ ap (λ z. a +ℤ z) (+ℤ_invr b) ∙ +ℤ_idr a

pub word-add : (s p : ℕ) (z : ℤ) → p ≡ word z → (s + p) % 2 ^ 64 ≡ word (pos s +ℤ z)
unfolding modulo
word-add s p z e = ap (λ x. (s + x) % 2 ^ 64) e ∙ sym (Nat.mod-add-mod s (2 ^ 64) (word z)) ∙ sym (modulo_add (2 ^ 64) (omega arith) (pos s) z)

pub word-own : (s : ℕ) → s < 2 ^ 64 → s ≡ word (pos s)
unfolding modulo
word-own s l = sym (Nat.mod-eq_of_lt l)

-- what is taken away, as `wrapping_sub` takes it
pub word-sub : (s p : ℕ) (z : ℤ) → s < 2 ^ 64 → p < 2 ^ 64 → p ≡ word z → (s + (2 ^ 64 - p)) % 2 ^ 64 ≡ word (pos s +ℤ neg_ℤ z)
word-sub s p z fits l e =
    let r = (s + (2 ^ 64 - p)) % 2 ^ 64 in
    word-own r (Nat.mod-lt _ (omega arith))
    ∙ ap word (sym (undo (pos r) z))
    ∙ sym (modulo_again (2 ^ 64) (omega arith) (pos r +ℤ z) (neg_ℤ z))
    ∙ ap (λ x. word (pos x +ℤ neg_ℤ z)) (sym (word-add r p z e) ∙ back)
  where
    back : ((s + (2 ^ 64 - p)) % 2 ^ 64 + p) % 2 ^ 64 ≡ s
    back = omega arith

-- one term more
pub word_more : (s r : ℕ) (x t : ℤ) → s ≡ word x → r ≡ word (pos s +ℤ t) → r ≡ word (x +ℤ t)
word_more s r x t e h = h ∙ ap (λ n. word (pos n +ℤ t)) e ∙ modulo_again (2 ^ 64) (omega arith) x t

-- a product with a sign
pub word-product : (a y : ℕ) (c : ℤ) → a * y < 2 ^ 64 → y < 2 ^ 32 → pos a ≡ c +ℤ pos 2147483648 → (a * y + (2 ^ 64 - 2147483648 * y)) % 2 ^ 64 ≡ word (c *ℤ pos y)
word-product a y c fits small e =
    word-sub (a * y) (2147483648 * y) (pos (2147483648 * y)) fits (omega arith) (word-own _ (omega arith))
    ∙ ap (λ z. word (z +ℤ neg_ℤ (pos (2147483648 * y)))) spread
    ∙ ap word (undo (c *ℤ pos y) (pos (2147483648 * y)))
  where
    spread : pos (a * y) ≡ c *ℤ pos y +ℤ pos (2147483648 * y)
    spread = ap (λ z. z *ℤ pos y) e ∙ *ℤ_comm (c +ℤ pos 2147483648) (pos y) ∙ *ℤ_+ℤ (pos y) c (pos 2147483648) ∙ (λ i. *ℤ_comm (pos y) c i +ℤ pos (Nat.mul_comm y 2147483648 i))

pub times-neg : (c : ℤ) (y : ℕ) → neg_ℤ (c *ℤ pos y) ≡ c *ℤ neg_ℤ (pos y)
times-neg c zero = ap neg_ℤ (*ℤ-zero c) ∙ sym (*ℤ-zero c)
times-neg c (suc n) = sym (*ℤ-negsuc c n)

-- ---- 2^31 more than a signed number of 32 bits

abbrev pub moved : ℤ → ℕ
moved (pos n) = n + 2147483648
moved (negsuc n) = 2147483647 - n

pub moved_is : (c : ℤ) → mag c < 2147483648 → c +ℤ pos 2147483648 ≡ pos (moved c)
moved_is (pos n) h = refl
moved_is (negsuc n) h = let e : 2147483648 - suc n ≡ 2147483647 - n = omega arith in simp (le-ltb 2147483648 (suc n) h, e)

pub moved-below : (c : ℤ) → mag c < 2147483648 → moved c < 4294967296
moved-below (pos n) h = omega arith
moved-below (negsuc n) h = omega arith

pub wide_back : (c : ℤ) → SFits w32 c → to_z w64 (of_z w64 (to_z w32 (of_z w32 c))) ≡ c
wide_back c h = rw (to_z-of_z h) (to_z-of_z {w = w64} (record { sfits = omega (arith, h.sfits) }))
