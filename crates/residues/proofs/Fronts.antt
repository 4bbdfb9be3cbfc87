-- The front of a list that a loop overwrites, lent and handed back.
use Rattle.std.proofs.Common.{◌≡◌, ℕ, ◌+◌, ◌<◌, ◌≤◌, List, [], ◌++◌, length, get_or, take, drop, set, ap, ◌∙◌, append_assoc, arith, length-take-le, get_or-take}
use Rattle.std.proofs.Math.ListN.{drop_of_length-le}
use native.Mathlib.Nat.{le_refl}
use Rattle.protocol.specs.Basic.{tabulate}
use Rattle.residues.proofs.Fill.{filled, filled-turn, filled-behind}

module _ (f : ℕ → ℕ) (n : ℕ) (l : List ℕ) (inside : n ≤ length l) where
  pub front-was : (i : ℕ) → i < n → {s : List ℕ} → s ≡ filled f i (take n l) → get_or s i 0 ≡ get_or l i 0
  front-was i h e = ap (λ x. get_or x i 0) e ∙ filled-behind f i (take n l) 0 i (le_refl i) ∙ get_or-take n l i 0 h

  pub front-turn : (i : ℕ) → i < n → {s : List ℕ} {v : ℕ} → s ≡ filled f i (take n l) → v ≡ f i → set s i v ≡ filled f (i + 1) (take n l)
  front-turn i h e is = filled-turn f i (take n l) e is (omega (arith, length-take-le n l inside))

  pub front-done : {i : ℕ} {s : List ℕ} → s ≡ filled f i (take n l) → i ≡ n → s ++ drop n l ≡ filled f n l
  unfolding filled
  front-done e is =
      ap (λ x. x ++ drop n l) (e ∙ ap (λ m. filled f m (take n l)) is)
      ∙ ap (λ x. (tabulate n f ++ x) ++ drop n l) (drop_of_length-le (take n l) (omega (arith, length-take-le n l inside)))
      ∙ append_assoc (tabulate n f) [] (drop n l)
