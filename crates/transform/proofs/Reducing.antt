-- Whole numbers as residues modulo 12289, by a number above zero that stands for them.
use Rattle.std.proofs.Common.{◌≡◌, ℕ, suc, ◌+◌, ◌-◌, ◌*◌, ◌%◌, ◌^◌, ◌<◌, ◌≤◌, ℤ, pos, negsuc, ◌+ℤ◌, nat_abs, sym, refl, ap, ◌∙◌, arith, to_z-of_z, w32, w64, SFits, to_z, of_z, le-ltb}
use native.Mathlib.Nat as Nat
use lib.Signed.{mag}
use Rattle.algebra.specs.Integers.{ofℤ}
use Rattle.algebra.specs.Residues.{res-mod}
use Rattle.protocol.specs.Element.{modulo}
use Rattle.powers.specs.Powers.{modulus, positive, K, res}
use Rattle.transform.proofs.Values.{ofℤ-modulo}

pub stands-for : (x : ℤ) (r : ℕ) → r % modulus ≡ modulo modulus x → res r ≡ ofℤ K x
stands-for x r e = sym (res-mod modulus positive r) ∙ ap res e ∙ sym (ofℤ-modulo x)

-- 2^32 + 6·12289 more than a signed number of 32 bits
abbrev pub moved : ℤ → ℕ
moved (pos n) = n + 4295041030
moved (negsuc n) = 4295041029 - n

pub moved_is : (x : ℤ) → mag x < 2147483648 → x +ℤ pos 4295041030 ≡ pos (moved x)
moved_is (pos n) h = refl
moved_is (negsuc n) h = let e : 4295041030 - suc n ≡ 4295041029 - n = omega arith in simp (le-ltb 4295041030 (suc n) (omega arith), e)

pub moved-below : (x : ℤ) → mag x < 2147483648 → moved x < 8589934592
moved-below (pos n) h = omega arith
moved-below (negsuc n) h = omega arith

pub moved-residue : (x : ℤ) (r part : ℕ) → nat_abs x ≤ 2 ^ 16 → r + part * 12289 ≡ moved x % 262144 → r % modulus ≡ modulo modulus x
unfolding modulo
moved-residue (pos n) r part h e =
    let t : r + part * 12289 ≡ n + 73734 = e ∙ omega arith in
    sym (Nat.add-mul-mod_self_right r part 12289) ∙ ap (λ m. m % 12289) t ∙ omega arith
moved-residue (negsuc n) r part h e =
    let t : r + part * 12289 ≡ 73733 - n = e ∙ omega arith in
    sym (Nat.add-mul-mod_self_right r part 12289) ∙ ap (λ m. m % 12289) t ∙ omega arith

pub wide_back : (x : ℤ) → SFits w32 x → to_z w64 (of_z w64 (to_z w32 (of_z w32 x))) ≡ x
wide_back x h = rw (to_z-of_z h) (to_z-of_z {w = w64} (record { sfits = omega (arith, h.sfits) }))
