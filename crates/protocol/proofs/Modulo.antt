-- How the residue of a whole number goes with sums, changes of sign and products.
use mathlib.Core.Path.{◌≡◌, refl, sym, ap, ◌∙◌}
use mathlib.Core.Bool.{Bool, true, false, cond}
use Prim.Native.Nat.{ℕ, zero, suc, ◌+◌, ◌*◌, ◌-◌, ◌/◌, ◌%◌, ◌<◌, ◌≤◌}
use native.Mathlib.Nat as Nat
use native.Mathlib.Decide.{dec_lt}
use native.Mathlib.Omega.{arith}
use borrow.Author.Tests.{ltb-false, le-ltb}
use lib.Dec.{ltb}
use lib.IntN.{ℤ, pos, negsuc, neg_ℤ, ◌+ℤ◌, ◌*ℤ◌, pos-ne-negsuc, +ℤ_assoc, +ℤ_comm, +ℤ_invr, suc_ℤ-*ℤ, zero-*ℤ}
use lib.ListN.{get_or}
use Rattle.protocol.specs.Element.{Element, modulo, reduced}
use Rattle.protocol.proofs.Reading.{tabulate_at}

-- an element that is reduced place by place
pub reduced_at : (q d : ℕ) (a : Element) (k : ℕ) → k < d → get_or (reduced q d a) k 0 ≡ modulo q (a k)
unfolding reduced
reduced_at q d a k l = tabulate_at d (λ k. modulo q (a k)) 0 k l

module _ (q : ℕ) (p : 0 < q) where
  -- z plus m times q is the number x
  Lifts : ℤ → ℕ → ℕ → Type 0
  Lifts z m x = z +ℤ pos (m * q) ≡ pos x

  pub modulo-lt : (z : ℤ) → modulo q z < q
  unfolding modulo
  modulo-lt (pos n) = Nat.mod-lt n p
  modulo-lt (negsuc n) = omega (arith, Nat.mod-lt n p)

  -- −(n + 1) plus m times q, where that is not below zero
  below : (n m : ℕ) → suc n ≤ m * q → q - suc (n % q) ≡ (m * q - suc n) % q
  below n m h =
      sym (ap (λ x. x % q) whole ∙ Nat.add-mul-mod_self_right (q - suc (n % q)) (m - suc (n / q)) q ∙ Nat.mod-eq_of_lt (omega (arith, Nat.mod-lt n p)))
    where
      less : n / q < m
      less = (Nat.div-lt_iff_lt-mul p).1 h

      parts : m * q ≡ q + n / q * q + (m - suc (n / q)) * q
      parts = ap (λ x. x * q) (omega (arith, less)) ∙ Nat.add-mul (suc (n / q)) (m - suc (n / q)) q ∙ ap (λ x. x + (m - suc (n / q)) * q) (Nat.suc-mul (n / q) q ∙ Nat.add_comm (n / q * q) q)

      whole : m * q - suc n ≡ q - suc (n % q) + (m - suc (n / q)) * q
      whole = omega (arith, parts, Nat.div-add-mod' n q, Nat.mod-lt n p)

  -- the residue is that of any number that differs by a multiple of q
  lifted : (z : ℤ) (m x : ℕ) → Lifts z m x → modulo q z ≡ x % q
  unfolding Lifts modulo
  lifted (pos n) m x e = let f : n + m * q ≡ x = cc in sym (Nat.add-mul-mod_self_right n m q) ∙ ap (λ y. y % q) f
  lifted (negsuc n) m x e = go (ltb (m * q) (suc n)) refl e
    where
      go : (b : Bool) → ltb (m * q) (suc n) ≡ b → cond b (negsuc (suc n - suc (m * q))) (pos (m * q - suc n)) ≡ pos x → q - suc (n % q) ≡ x % q
      go true t f = absurd (pos-ne-negsuc x _ (sym f))
      go false t f = let g : m * q - suc n ≡ x = cc in below n m (ltb-false _ _ t) ∙ ap (λ y. y % q) g

  record Lift (z : ℤ) : Type 0 where
    times : ℕ
    value : ℕ
    lifts : Lifts z times value

  lift : (z : ℤ) → Lift z
  unfolding Lifts
  lift (pos n) = record { times = 0; value = n; lifts = ap pos (omega (arith, Nat.zero-mul q)) }
  lift (negsuc n) =
      record { times = suc n; value = suc n * q - suc n; lifts = ap (λ b. cond b (negsuc (suc n - suc (suc n * q))) (pos (suc n * q - suc n))) (le-ltb _ _ (Nat.le-mul_of_pos_right (suc n) p)) }

  pub modulo_add : (a b : ℤ) → modulo q (a +ℤ b) ≡ (modulo q a + modulo q b) % q
  unfolding Lifts
  modulo_add a b =
      lifted (a +ℤ b) (A.times + B.times) (A.value + B.value) both
      ∙ Nat.add-mod A.value B.value q
      ∙ sym (λ i. (lifted a A.times A.value A.lifts i + lifted b B.times B.value B.lifts i) % q)
    where
      A : Lift a
      A = lift a

      B : Lift b
      B = lift b

      both : (a +ℤ b) +ℤ pos ((A.times + B.times) * q) ≡ pos (A.value + B.value)
      both =
          ap (λ x. (a +ℤ b) +ℤ pos x) (Nat.add-mul A.times B.times q)
          ∙ +ℤ_assoc a b (pos (A.times * q) +ℤ pos (B.times * q))
          ∙ ap (λ x. a +ℤ x)
          (sym (+ℤ_assoc b (pos (A.times * q)) (pos (B.times * q))) ∙ ap (λ x. x +ℤ pos (B.times * q)) (+ℤ_comm b (pos (A.times * q))) ∙ +ℤ_assoc (pos (A.times * q)) b (pos (B.times * q)))
          ∙ sym (+ℤ_assoc a (pos (A.times * q)) (b +ℤ pos (B.times * q)))
          ∙ (λ i. A.lifts i +ℤ B.lifts i)

  pub modulo_neg : (a : ℤ) → modulo q (neg_ℤ a) ≡ (q - modulo q a) % q
  modulo_neg a = opposite (modulo q a) (modulo q (neg_ℤ a)) (modulo-lt a) (modulo-lt (neg_ℤ a)) (sym (modulo_add a (neg_ℤ a)) ∙ ap (modulo q) (+ℤ_invr a) ∙ nothing)
    where
      nothing : modulo q (pos 0) ≡ 0
      nothing = unfold modulo in Nat.zero-mod q

      opposite : (x y : ℕ) → x < q → y < q → (x + y) % q ≡ 0 → y ≡ (q - x) % q
      opposite zero y l m e = sym (Nat.mod-eq_of_lt m) ∙ ap (λ z. z % q) (sym (Nat.zero-add y)) ∙ e ∙ sym (ap (λ z. z % q) (Nat.sub-zero q) ∙ Nat.mod_self q)
      opposite (suc x) y l m e = elim (dec_lt (suc x + y) q) [
        | yes h ↦ absurd (omega (arith, sym (Nat.mod-eq_of_lt h) ∙ e))
        | no h ↦
            let f = sym (Nat.mod-eq_of_lt {n = suc x + y - q} (omega arith)) ∙ sym (Nat.mod-eq-sub-mod {n = suc x + y} {m = q} (omega arith)) ∙ e in
            omega (arith, f, Nat.mod-eq_of_lt {n = q - suc x} {m = q} (omega arith))
      ]

  pub modulo_times : (n : ℕ) (a : ℤ) → modulo q (pos n *ℤ a) ≡ n * modulo q a % q
  modulo_times zero a = ap (modulo q) (zero-*ℤ a) ∙ unfold modulo in (Nat.zero-mod q ∙ sym (ap (λ x. x % q) (Nat.zero-mul (modulo q a)) ∙ Nat.zero-mod q))
  modulo_times (suc n) a =
      ap (modulo q) (suc_ℤ-*ℤ (pos n) a)
      ∙ modulo_add (pos n *ℤ a) a
      ∙ ap (λ x. (x + modulo q a) % q) (modulo_times n a)
      ∙ Nat.mod-add-mod (n * modulo q a) q (modulo q a)
      ∙ ap (λ x. x % q) (sym (Nat.suc-mul n (modulo q a)))

  -- to reduce once more, or before, changes nothing
  pub modulo_residue : (n : ℕ) → n < q → modulo q (pos n) ≡ n
  unfolding modulo
  modulo_residue n h = Nat.mod-eq_of_lt h

  pub modulo_again : (a b : ℤ) → modulo q (pos (modulo q a) +ℤ b) ≡ modulo q (a +ℤ b)
  modulo_again a b = modulo_add (pos (modulo q a)) b ∙ ap (λ x. (x + modulo q b) % q) (modulo_residue (modulo q a) (modulo-lt a)) ∙ sym (modulo_add a b)

  pub times_mod : (a b : ℕ) → a * (b % q) % q ≡ a * b % q
  unfolding modulo
  times_mod a b = sym (modulo_times a (pos b))

  pub mod_times : (a b : ℕ) → a % q * b % q ≡ a * b % q
  mod_times a b = ap (λ x. x % q) (Nat.mul_comm (a % q) b) ∙ times_mod b a ∙ ap (λ x. x % q) (Nat.mul_comm b a)
