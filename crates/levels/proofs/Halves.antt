-- A loop that writes both halves of a block, a pair in a turn.
use Rattle.std.proofs.Common.{◌≡◌, ℕ, ◌+◌, ◌<◌, ◌≤◌, List, length, get_or, set, sym, refl, ◌∙◌, subst, arith, length-set, get_or-set_other, get_or-set_same, lt-length-set}
use native.Mathlib.Nat as NatL
use native.Mathlib.Decide.{ℕ_discrete, dec_lt}
use Rattle.powers.specs.Powers.{Below}
use Rattle.levels.specs.Halves.{Pairs}
use Rattle.levels.proofs.Parts.{by_halves}

pub pairs-none : (P : ℕ → ℕ → ℕ → ℕ → Type 0) (h : ℕ) (l : List ℕ) → Pairs P h 0 l l
pairs-none P h l = record { same = refl; pair = λ k b. absurd (omega arith); low_rest = λ k a b. refl; high_rest = λ k a. refl }

module _ (P : ℕ → ℕ → ℕ → ℕ → Type 0) (h i : ℕ) (l m : List ℕ) (before : Pairs P h i l m) (small : i < h) (long : h + h ≤ length l) (u v : ℕ)
    (now : P (get_or m i 0) (get_or m (h + i) 0) u v) where
  next : List ℕ
  next = set (set m i u) (h + i) v

  -- what is not written stays
  stays : (k : ℕ) → (k ≡ i → ⊥) → (k ≡ h + i → ⊥) → get_or next k 0 ≡ get_or m k 0
  unfolding next
  stays k a b = get_or-set_other (set m i u) (h + i) k v 0 b ∙ get_or-set_other m i k u 0 a

  at_low : get_or next i 0 ≡ u
  unfolding next
  at_low = get_or-set_other (set m i u) (h + i) i v 0 (λ e. omega arith) ∙ get_or-set_same m i u 0 (omega (arith, before.same))

  at_high : get_or next (h + i) 0 ≡ v
  unfolding next
  at_high = get_or-set_same (set m i u) (h + i) v 0 (lt-length-set m i u (omega (arith, before.same)))

  written : P (get_or l i 0) (get_or l (h + i) 0) (get_or next i 0) (get_or next (h + i) 0)
  written = rw (at_low, at_high, ← before.low_rest i (NatL.le_refl i) small, ← before.high_rest i (NatL.le_refl i)) now

  abbrev At : ℕ → Type 0
  At k = P (get_or l k 0) (get_or l (h + k) 0) (get_or next k 0) (get_or next (h + k) 0)

  kept : (k : ℕ) → k < i → At k
  kept k b = rw (stays k (λ e. omega arith) (λ e. omega arith), stays (h + k) (λ e. omega arith) (λ e. omega arith)) (before.pair k b)

  pub pairs-turn : Pairs P h (i + 1) l (set (set m i u) (h + i) v)
  unfolding next
  pairs-turn = record {
    same = length-set (set m i u) (h + i) v ∙ length-set m i u ∙ before.same;
    pair = λ k b. elim (ℕ_discrete k i) [ yes e ↦ subst At (sym e) written | no ne ↦ kept k (omega arith) ];
    low_rest = λ k a b. stays k (λ e. omega arith) (λ e. omega arith) ∙ before.low_rest k (omega arith) b;
    high_rest = λ k a. stays (h + k) (λ e. omega arith) (λ e. omega arith) ∙ before.high_rest k (omega arith);
  }

-- where both numbers of a pair stay below b, all numbers do
pub pairs_below : (P : ℕ → ℕ → ℕ → ℕ → Type 0) (b h : ℕ) (l m : List ℕ) → ((x y u v : ℕ) → x < b → y < b → P x y u v → (u < b) × (v < b)) → Pairs P h h l m → Below b l → Below b m
pairs_below P b h l m stay all small = by_halves (λ k. get_or m k 0 < b) h (λ k s. (both k s).0) (λ k. elim (dec_lt k h) [
  | yes s ↦ (both k s).1
  | no s ↦ subst (λ n. n < b) (sym (all.high_rest k (omega arith))) (small (h + k))
])
  where
    both : (k : ℕ) → k < h → (get_or m k 0 < b) × (get_or m (h + k) 0 < b)
    both k s = stay _ _ _ _ (small k) (small (h + k)) (all.pair k s)
