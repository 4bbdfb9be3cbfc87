-- Do two sums stand for c·a: with c·(q − a) added to them, they stand for a multiple of q.
use Rattle.std.proofs.Common.{◌≡◌, ℕ, ◌+◌, ◌-◌, ◌*◌, ◌%◌, ◌^◌, ◌<◌, ◌≤◌, Bool, true, false, ◌&&◌, eqb, ℤ, pos, ◌+ℤ◌, ◌*ℤ◌, sym, refl, ap, ◌∙◌, arith, le-ltb, lt-ltb, eq-eqb, ne_eqb, eqb-true}
use native.Mathlib.Nat as Nat
use borrow.Author.Tests.{eqb-false}
use Rattle.protocol.specs.Element.{modulo}
use Rattle.protocol.proofs.Modulo.{modulo-lt, modulo_add}
use Rattle.joins.specs.Sums.{weight, lower_half, upper_half, room, Halves}
use Rattle.joins.proofs.Joining.{halves_product, halves-add, halves-within}
use Rattle.multiples.specs.Multiples.{multiple_is}

module _ (q : ℕ) (p : 0 < q) where
  -- what q divides may be added
  divided-add : (x y : ℕ) → y % q ≡ 0 → (x + y) % q ≡ x % q
  divided-add x y e = Nat.add-mod x y q ∙ ap (λ w. (x % q + w) % q) e ∙ ap (λ w. w % q) (Nat.add-zero (x % q)) ∙ Nat.mod-mod x q

  same_residue : (x y a : ℕ) → (x + a) % q ≡ 0 → (y + a) % q ≡ 0 → x % q ≡ y % q
  same_residue x y a e f = sym (divided-add x (y + a) f) ∙ ap (λ w. w % q) {x = x + (y + a)} {y = y + (x + a)} (omega arith) ∙ divided-add y (x + a) e

  residue-again : (z : ℤ) → modulo q z % q ≡ modulo q z
  residue-again z = Nat.mod-eq_of_lt (modulo-lt q p z)

  module _ (z : ℤ) (c a : ℕ) where
    pub multiple-past : q ≤ a → false ≡ multiple_is q c z a
    unfolding multiple_is
    multiple-past h = sym (ap (λ b. b && eqb (c * a % q) (modulo q z)) (le-ltb a q h))

    -- the sums with c·(q − a) added
    pub sums-raised : (s t s' t' : ℕ) → q ≤ 2 ^ 61 → c ≤ 2 ^ 13 → Halves q z (2 ^ 61) s t → s' ≡ (s + c * lower_half (q - a)) % 2 ^ 64 → t' ≡ (t + c * upper_half (q - a)) % 2 ^ 64
        → Halves q (z +ℤ pos (c * (q - a))) room s' t'
    unfolding modulo
    sums-raised s t s' t' most few H es et = halves-within q _ (2 ^ 61 + 2 ^ 13 * weight) room _ _ (omega arith) (
        halves-add q p z (pos c *ℤ pos (q - a)) (2 ^ 61) (2 ^ 13 * weight) s t s' t' _ _ H (halves_product q (pos c) (q - a) (2 ^ 13) most few (omega arith))
        (es ∙ sym (Nat.add-mod-mod s (c * lower_half (q - a)) (2 ^ 64))) (et ∙ sym (Nat.add-mod-mod t (c * upper_half (q - a)) (2 ^ 64))))

    module _ (l : a < q) (v : ℕ) (e : v ≡ modulo q (z +ℤ pos (c * (q - a)))) where
      all_divided : (c * a + c * (q - a)) % q ≡ 0
      all_divided = ap (λ w. w % q) (sym (Nat.mul-add c a (q - a)) ∙ ap (λ w. c * w) {y = q} (omega arith) ∙ sym (Nat.zero-add (c * q))) ∙ Nat.add-mul-mod_self_right 0 c q ∙ Nat.zero-mod q

      whole : v ≡ (modulo q z + c * (q - a)) % q
      unfolding modulo
      whole = e ∙ modulo_add q p z (pos (c * (q - a))) ∙ Nat.add-mod-mod (modulo q z) (c * (q - a)) q

      by_rest : (b : Bool) → eqb v 0 ≡ b → b ≡ eqb (c * a % q) (modulo q z)
      by_rest true t = sym (eq-eqb _ _ (sym (same_residue (modulo q z) (c * a) (c * (q - a)) (sym whole ∙ eqb-true _ _ t) all_divided) ∙ residue-again z))
      by_rest false t = sym (ne_eqb _ _ (λ i. eqb-false _ _ t (whole
          ∙ Nat.add-mod (modulo q z) (c * (q - a)) q ∙ ap (λ x. (x + c * (q - a) % q) % q) (residue-again z ∙ sym i) ∙ sym (Nat.add-mod (c * a) (c * (q - a)) q) ∙ all_divided)))

      pub multiple-test : eqb v 0 ≡ multiple_is q c z a
      unfolding multiple_is
      multiple-test = by_rest (eqb v 0) refl ∙ sym (ap (λ b. b && eqb (c * a % q) (modulo q z)) (lt-ltb a q l))
