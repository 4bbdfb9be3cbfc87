-- The halves of what is left of a table: how large they are, that both tables' are ready for inner products.
use mathlib.Core.Path.{◌≡◌, sym, ap, ◌∙◌}
use mathlib.Core.List.{List}
use Prim.Native.Nat.{ℕ, ◌+◌, ◌*◌, ◌^◌, ◌<◌, ◌≤◌}
use native.Mathlib.Nat as Nat
use native.Mathlib.Omega.{arith}
use lib.IntN.{ℤ, pos, nat_abs}
use lib.ListN.{get_or}
use lib.Pow as Pow
use Rattle.protocol.specs.declared.Settings.{Settings}
use Rattle.protocol.specs.Settings.{cells}
use Rattle.protocol.specs.Opening.{left, half_left}
use Rattle.protocol.specs.Inputs.{Valid}
use Rattle.protocol.proofs.OpeningLaws.{left_power, half_left-power, twice_power, left_inside}
use Rattle.sizes.proofs.Limits.{degree_least, degree_most}
use Rattle.prover_refusals.proofs.Given.{RoundGiven}
use Rattle.round_products.specs.Messages.{Halved}

module _ (S : Settings) (ok : Valid S) (t : ℕ) (l : t < S.depth) where
  abbrev half_cells : ℕ
  half_cells = half_left S t * S.degree

  pub left_halves : left S t * S.degree ≡ 2 * half_cells
  left_halves = ap (λ n. n * S.degree) (left_power S t (omega arith) ∙ twice_power S.depth t l ∙ sym (λ i. half_left-power S t l i + half_left-power S t l i))
      ∙ Nat.add-mul (half_left S t) (half_left S t) S.degree ∙ omega arith

  pub halves-inside : 2 * half_cells ≤ cells S
  halves-inside = omega (arith, left_halves, left_inside S t)

  pub half_most_lem : half_left S t ≤ 128
  half_most_lem = Nat.le_trans (Nat.le_of_eq (half_left-power S t l)) (Pow.pow_mono {j = 7} (omega (arith, ok.depth_most)))

  pub left_most : 2 ^ t * S.bound ≤ 2 ^ 14
  left_most = omega (arith, Nat.mul-le-mul {n₁ = 2 ^ t} {n₂ = 2 ^ 7} (Pow.pow_mono {i = t} {j = 7} (omega (arith, ok.depth_most))) ok.bound_most)

pub round-tables : (S : Settings) (t : ℕ) (key : List ℕ) (message : List ℤ) → RoundGiven S t key message → Halved S.modulus S.degree (half_left S t) message key
round-tables S t key message g = record {
  tables = record {
    modulus = omega (arith, ok.modulus_least);
    modulus_odd = ok.modulus_odd;
    modulus_most_holds = ok.modulus_most_holds;
    degree = omega (arith, degree_least S ok);
    degree_most = degree_most S ok;
    elements = omega (arith, half_most_lem S ok t g.turn);
    message_long = omega (arith, same, halves-inside S ok t g.turn, g.tables.message_long);
    key_long = omega (arith, same, halves-inside S ok t g.turn, g.tables.key_given.long);
    message_small = λ j l. omega (arith, small j (omega (arith, same)));
    key_residues = λ j l. g.tables.key_given.each j (omega (arith, same, halves-inside S ok t g.turn));
  };
  message_half = small;
}
  where
    ok : Valid S
    ok = g.tables.settings

    same : 2 * half_left S t * S.degree ≡ 2 * (half_left S t * S.degree)
    same = Nat.mul_assoc 2 (half_left S t) S.degree

    small : (j : ℕ) → j < 2 * (half_left S t * S.degree) → nat_abs (get_or message j (pos 0)) ≤ 2 ^ 14
    small j l = omega (arith, left_most S ok t g.turn, g.small_left j (omega (arith, left_halves S ok t g.turn)))
