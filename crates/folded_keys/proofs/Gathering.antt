-- Sums of a key's turned elements modulo 2^64: what they stand for modulo q, once all are added.
use Rattle.std.proofs.Common.{◌≡◌, ℕ, ◌+◌, ◌-◌, ◌*◌, ◌/◌, ◌%◌, ◌^◌, ◌<◌, ◌≤◌, List, length, get_or, pos, nat_abs, sym, ap, ◌∙◌, subst, arith}
use native.Mathlib.Nat as Nat
use Rattle.protocol.specs.declared.Settings.{Settings}
use Rattle.protocol.specs.Basic.{sum}
use Rattle.protocol.specs.Element.{Element, modulo, around, rotate, reduced, padded, residue_at}
use Rattle.residues.proofs.Padding.{padded_at}
use Rattle.joins.specs.Sums.{room, Halves, Stand}
use Rattle.joins.proofs.Joining.{halves-lower}
use Rattle.product_sums.proofs.Standing.{sum_most, flips-size}
use Rattle.folded_keys.specs.Turns.{Summed}

module _ (S : Settings) (key x : List ℕ) (n : ℕ) where
  open S use {degree as d, modulus as q}

  abbrev pub gathered_key : Element
  gathered_key k = sum n (λ j. rotate d (get_or x j 0) (residue_at d key j) k)

  module _ (pd : 0 < d) (below : (j : ℕ) → get_or key j 0 < q) (few : n ≤ 256) (most : q ≤ 2 ^ 54) where
    turned_most : (e i k : ℕ) → nat_abs (rotate d e (residue_at d key i) k) ≤ q
    turned_most e i k = unfold rotate around residue_at in
        omega (
          arith,
          flips-size ((k + (2 * d - e % (2 * d))) / d) (pos (get_or key (i * d + (k + (2 * d - e % (2 * d))) % d) 0)),
          below (i * d + (k + (2 * d - e % (2 * d))) % d),
        )

    gathered_most : (k : ℕ) → nat_abs (gathered_key k) ≤ room
    gathered_most k = Nat.le_trans (sum_most n q _ (λ j _. turned_most (get_or x j 0) j k)) (Nat.le_trans (Nat.mul-le-mul {n₂ = 256} {m₂ = 2 ^ 54} few most) (omega arith))

    pub gathered-stand : (sums none : List ℕ) → d ≤ length sums → d ≤ length none → ((k : ℕ) → k < d → get_or none k 0 ≡ 0) → Summed (2 ^ 64) S key x n sums → Stand q d gathered_key sums none
    gathered-stand sums none long long-none empty s = record {
      lowers = long;
      uppers = long-none;
      each = λ k l. subst (λ t. Halves q (gathered_key k) room (get_or sums k 0) t) (sym (empty k l))
          (subst (λ y. Halves q (gathered_key k) room y 0) (sym (s k l)) (halves-lower q (gathered_key k) room (gathered_most k)));
    }

  pub gathered-joined : (r : List ℕ) → r ≡ padded d (reduced q d gathered_key) → Summed q S key x n r
  unfolding reduced
  gathered-joined r e k l = ap (λ y. get_or y k 0) e ∙ padded_at d (λ j. modulo q (gathered_key j)) k l
