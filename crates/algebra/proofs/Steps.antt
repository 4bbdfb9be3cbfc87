-- Of d a power of two: every step comes half way round, and an even one in at most half as many.
use Rattle.std.specs.Prelude.{◌≡◌, Bool, ℕ, zero, suc, ◌+◌, ◌*◌, ◌/◌, ◌%◌, ◌^◌, ◌<◌, ◌≤◌, eqb}
use Rattle.std.proofs.Common.{sym, ap, ◌∙◌, subst, arith}
use Rattle.std.proofs.Math.Nat as NatL
use Rattle.std.proofs.Math.Decide.{ℕ_discrete}
use Rattle.std.proofs.Math.Dec.{T, eqb→eq, eqb_refl}
use Rattle.algebra.specs.Steps.{least_first, least_holds, least_most, steps, Halfway, Reach, pow_pos}

reach_even : (e h : ℕ) → Reach e h → Reach (e * 2) (h * 2)
reach_even e h r = record { count = r.count; turns = r.turns; few = omega (arith, r.few); few_even = λ _. omega (arith, r.few); lands = omega (arith, r.lands) }

reach-odd : (e h : ℕ) → Reach e (h * 2 + 1)
reach-odd e h = record { count = e; turns = h; few = NatL.le_refl e; few_even = λ even. omega arith; lands = omega arith }

reach_more : (D k : ℕ) → 0 < k → k < 2 * 2 ^ suc D → (0 < k / 2 → k / 2 < 2 * 2 ^ D → Reach (2 ^ D) (k / 2)) → Reach (2 ^ suc D) k
reach_more D k h l ih = elim (ℕ_discrete (k % 2) 0) [
  | yes e ↦ rw NatL.pow-suc (subst (Reach (2 ^ D * 2)) (omega arith) (reach_even (2 ^ D) (k / 2) (ih (omega arith) (omega (arith, NatL.pow-suc 2 D)))))
  | no ne ↦ subst (Reach (2 ^ suc D)) (omega arith) (reach-odd (2 ^ suc D) (k / 2))
]

reach : (D k : ℕ) → 0 < k → k < 2 * 2 ^ D → Reach (2 ^ D) k
reach zero k h l = record { count = 1; turns = 0; few = NatL.le_refl 1; few_even = λ even. omega arith; lands = omega arith }
reach (suc D) k h l = reach_more D k h l (reach D (k / 2))

module _ (D k : ℕ) (h : 0 < k) (l : k < 2 * 2 ^ D) where
  abbrev r : Reach (2 ^ D) k
  r = reach D k h l

  abbrev meets : ℕ → Bool
  meets i = eqb (k * i % (2 * 2 ^ D)) (2 ^ D)

  reached : T (meets r.count)
  reached = subst (λ n. T (eqb n (2 ^ D))) (sym at) (eqb_refl (2 ^ D))
    where
      at : k * r.count % (2 * 2 ^ D) ≡ 2 ^ D
      at = ap (λ n. n % (2 * 2 ^ D)) r.lands ∙ NatL.add-mul-mod_self_right (2 ^ D) r.turns (2 * 2 ^ D) ∙ NatL.mod-eq_of_lt (omega (arith, pow_pos D))

  pub steps-halfway : Halfway (2 ^ D) k (steps (2 ^ D) k)
  unfolding steps
  steps-halfway = record {
    lands = eqb→eq _ _ (least_holds (2 ^ D) meets r.count r.few reached);
    first = λ i b f. least_first (2 ^ D) meets i b (subst (λ n. T (eqb n (2 ^ D))) (sym f) (eqb_refl (2 ^ D)));
  }

  -- an even step comes half way round in at most half as many
  pub steps_even : k % 2 ≡ 0 → steps (2 ^ D) k * 2 ≤ 2 ^ D
  unfolding steps
  steps_even even = omega (arith, least_most (2 ^ D) meets r.count reached, r.few_even even)
