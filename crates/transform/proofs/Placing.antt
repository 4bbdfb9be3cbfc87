-- A strand that is written place by place.
use Rattle.std.proofs.Common.{◌≡◌, ℕ, ◌+◌, ◌*◌, ◌/◌, ◌%◌, ◌^◌, ◌<◌, ◌≤◌, List, length, get_or, set, sym, refl, ap, ◌∙◌, subst, arith, length-set, get_or-set_other, get_or-set_same}
use native.Mathlib.Decide.{ℕ_discrete, dec_lt}
use Rattle.algebra.specs.Integers.{ofℤ}
use Rattle.protocol.specs.Element.{Element}
use Rattle.powers.specs.Powers.{modulus, K, res, seen}
use Rattle.transform.specs.Strands.{strands, Filled}
use Rattle.transform.specs.Steps.{Written}

module _ (P : ℕ → ℕ → Type 0) (l : ℕ) (inside : l < strands) (s : List ℕ) where
  pub written_none : Written P l 0 s s
  written_none = record { same = refl; done = λ k h. absurd (omega arith); rest = λ p h. refl }

  -- one place more
  pub written-turn : (n : ℕ) (m : List ℕ) (v : ℕ) → Written P l n s m → (n + 1) * strands ≤ length s → P n v → Written P l (n + 1) s (set m (n * strands + l) v)
  written-turn n m v p room holds = record {
    same = length-set m (n * strands + l) v ∙ p.same;
    done = λ k h. elim (ℕ_discrete k n) [
      | yes y ↦
          subst (λ w. P k w) (sym (ap (λ i. get_or (set m (n * strands + l) v) (i * strands + l) 0) y ∙ get_or-set_same m (n * strands + l) v 0 (omega (arith, p.same))))
          (subst (λ i. P i v) (sym y) holds)
      | no other ↦ subst (λ w. P k w) (sym (get_or-set_other m (n * strands + l) (k * strands + l) v 0 (λ e. other (omega arith)))) (p.done k (omega arith))
    ];
    rest = λ i h. get_or-set_other m (n * strands + l) i v 0 (λ e. omega (arith, h (omega arith))) ∙ p.rest i (λ e. omega (arith, h e));
  }

-- the room with one strand more
module _ (P : ℕ → ℕ → Type 0) (D d l : ℕ) (degree : d ≡ 2 ^ D) (inside : l < strands) (F : ℕ → Element) (s m : List ℕ) (before : Filled D l F s) (to : Written P l d s m)
    (stands : (k v : ℕ) → k < d → P k v → (v < 4 * modulus) × (res v ≡ ofℤ K (F l k))) where
  below : (p : ℕ) → get_or m p 0 < 4 * modulus
  below p = elim (ℕ_discrete (p % strands) l) [
    | no other ↦ subst (λ v. v < 4 * modulus) (sym (to.rest p (λ e. absurd (other e)))) (before.room.below p)
    | yes here ↦ elim (dec_lt (p / strands) d) [
      | no past ↦ subst (λ v. v < 4 * modulus) (sym (to.rest p (λ _. omega arith))) (before.room.below p)
      | yes k ↦ subst (λ i. get_or m i 0 < 4 * modulus) {x = p / strands * strands + l} (omega arith) (stands (p / strands) _ k (to.done (p / strands) k)).0
    ]
  ]

  each : (i k : ℕ) → i < l + 1 → k < 2 ^ D → seen m (k * strands + i) ≡ ofℤ K (F i k)
  unfolding seen
  each i k h b = elim (ℕ_discrete i l) [
    | yes y ↦
        let c : k < d = omega arith in
        ap (λ j. res (get_or m (k * strands + j) 0)) y ∙ (stands k _ c (to.done k c)).1 ∙ ap (λ j. ofℤ K (F j k)) (sym y)
    | no other ↦ ap res (to.rest (k * strands + i) (λ e. absurd (other (omega arith)))) ∙ before.each i k (omega arith) b
  ]

  pub strand-filled : Filled D (l + 1) F m
  strand-filled = record { room = record { long = to.same ∙ before.room.long; below = below }; each = each }
